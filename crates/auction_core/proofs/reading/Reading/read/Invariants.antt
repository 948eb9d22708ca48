use Rattle.std.proofs.Common.{◌-◌, ◌≤◌, ◌++◌, ℕ, List, length, take}
use Rattle.auction_core.specs.InternalReading.{Reads}
use Rattle.auction_core.proofs.reading.Reading.read.Given as goal

abbrev pub invariant-loop-at : goal.invariant-loop-at
invariant-loop-at l = record {
  within : l.at ≤ length l.piece;
  reads : (read : List ℕ) → Reads read l.initial.self → Reads (read ++ take l.at l.piece) l.self;
}

abbrev pub decreases-loop-at : goal.decreases-loop-at
decreases-loop-at l = length l.piece - l.at
