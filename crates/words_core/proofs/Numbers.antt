-- Decimal digits, one after the other.
use Rattle.std.proofs.Common.{◌≡◌, ℕ, ◌+◌, ◌-◌, ◌*◌, ◌<◌, List, [], ◌∷◌, ◌++◌, length, get_or, take, refl, ap, ◌∙◌, arith}
use Rattle.std.specs.Prelude.{min}
use Rattle.std.proofs.lemmas.List.{take_more}
use Rattle.words_core.specs.Numbers.{value_behind}

value_last : (n : ℕ) (digits : List ℕ) (digit : ℕ) → value_behind n (digits ++ digit ∷ []) ≡ 10 * value_behind n digits + (digit - 48)
value_last n [] digit = refl
value_last n (d ∷ digits) digit = value_last (10 * n + (d - 48)) digits digit

pub value_next : (digits : List ℕ) (i : ℕ) → i < length digits → value_behind 0 (take (i + 1) digits) ≡ 10 * value_behind 0 (take i digits) + (get_or digits i 0 - 48)
value_next digits i lt = ap (value_behind 0) (take_more digits i 0 lt) ∙ value_last 0 (take i digits) (get_or digits i 0)

-- a value that stands still at its end
pub saturates : (most v next digit x product r : ℕ) → x ≡ min most v → product ≡ min (x * 10) most → r ≡ min (product + digit) most → next ≡ 10 * v + digit → r ≡ min most next
saturates most v next digit x product r kept times plus is = omega arith
