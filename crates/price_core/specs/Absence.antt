-- A price that may be absent, as one number: 0 where it is absent.
use Rattle.std.specs.Prelude.{◌≡◌, ℕ, ◌==◌, if◌then◌else◌, Option, Some, None, refl}
use Rattle.std.proofs.Common.{arith}
use Rattle.std.proofs.lemmas.Bool.Decides.{nat_tests}

-- the price of a number
abbrev pub price_or_none : ℕ → Option ℕ
price_or_none units = if units == 0 then None else Some units

-- how a price is written that may be absent
abbrev pub units_or_zero : Option ℕ → ℕ
units_or_zero None = 0
units_or_zero (Some units) = units

-- the number of the price of a number is that number
pub units_again : (units : ℕ) → units_or_zero (price_or_none units) ≡ units
units_again units = grind (arith, nat_tests)
