-- Records in the first of some places, and bytes in those of a file.
use Rattle.std.proofs.Common.{◌≡◌, ◌<◌, ◌≤◌, ℕ, Bool, true, false, cond, List, length, take, ap, arith}
use Rattle.std.proofs.lemmas.List.{length-take}
use Rattle.wire_in.specs.declared.record.Record.{Record}

-- one more has a place
pub within : (count : ℕ) (places records : List Record) → length places ≡ 64 → records ≡ take count places → length records < 64 → count < length places
within count places records room is few = omega (arith, ap length is, length-take count places)

-- what a journal that is rolled has more
pub rolled_most : (rolled : Bool) → cond rolled 163885 0 ≤ 163885
rolled_most true = omega arith
rolled_most false = omega arith
