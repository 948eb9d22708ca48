-- Rounding half up. Prices are ten-thousandths of a dollar, so a cent is 100 of them.
use Rattle.std.specs.Prelude.{ℕ, ◌+◌, ◌*◌, ◌/◌}

-- a sum over a number, to the nearest unit
abbrev pub mean : ℕ → ℕ → ℕ
mean sum n = (2 * sum + n) / (2 * n)

-- num over den, to the nearest cent
abbrev pub round_cent : ℕ → ℕ → ℕ
round_cent num den = 100 * ((2 * num + 100 * den) / (200 * den))
