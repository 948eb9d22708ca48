-- A linear congruential sequence of numbers of 64 bits. Each draw steps to the next number.
use Rattle.std.specs.Prelude.{ℕ, zero, suc, ◌+◌, ◌*◌, ◌/◌, ◌%◌, ◌^◌}

-- the number behind another
unfoldable pub next_number : ℕ → ℕ
next_number number = (number * 6364136223846793005 + 1442695040888963407) % 2 ^ 64

-- the number after so many draws from another
abbrev pub number_after : ℕ → ℕ → ℕ
number_after number zero = number
number_after number (suc draws) = next_number (number_after number draws)

-- what a draw answers that stepped to this number
abbrev pub answer_of : ℕ → ℕ
answer_of number = number / 2 ^ 33

-- what the n-th draw from a number answers, the first one being draw 1
abbrev pub draw : ℕ → ℕ → ℕ
draw number n = answer_of (number_after number n)
