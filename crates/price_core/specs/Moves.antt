-- How far a price or an index has moved.
use Rattle.std.specs.Prelude.{ℕ, Bool, ◌+◌, ◌-◌, ◌*◌, nat_le}

-- the distance of two numbers
abbrev pub distance : ℕ → ℕ → ℕ
distance a b = (a - b) + (b - a)

-- a price is at least one per cent of the reference price away from it (LULD Plan, Section V)
abbrev pub moved_one_percent : ℕ → ℕ → Bool
moved_one_percent price reference = nat_le reference (100 * distance price reference)

-- an index value is at least that many per cent below the close (NYSE Rule 7.12)
abbrev pub fell : ℕ → ℕ → ℕ → Bool
fell percent value close = nat_le (100 * value) ((100 - percent) * close)
