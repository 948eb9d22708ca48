-- Reciprocals of numbers, by which remainders are found. Private words: no public clause cites them.
use Rattle.std.specs.Prelude.{◌≡◌, ℕ, ◌+◌, ◌-◌, ◌/◌, ◌%◌, ◌^◌, ◌<◌}

-- 2^64 divided by a number, rounded up, as a number of 64 bits
abbrev pub reciprocal_of : ℕ → ℕ
reciprocal_of number = ((2 ^ 64 - 1) / number + 1) % 2 ^ 64

pub record IsReciprocal (number reciprocal : ℕ) : Type 0 where
  pub some : 0 < number
  pub small : number < 2 ^ 32
  pub is : reciprocal ≡ reciprocal_of number
