use Rattle.std.proofs.Common.{◌≡◌, ◌+◌, ◌-◌, ◌≤◌, ◌++◌, ℕ, List, length, take}
use Rattle.screen_core.specs.InternalScreens.{IsReadyFor, Reads}
use Rattle.screen_core.proofs.stream.Screening.read.Given as goal

abbrev pub invariant-loop-at : goal.invariant-loop-at
invariant-loop-at l = record {
  within : l.at ≤ length l.piece;
  reads : (read : List ℕ) → Reads read l.initial.self → Reads (read ++ take l.at l.piece) l.self;
  ready : (more : ℕ) → IsReadyFor (length l.piece + more) l.initial.self.screen → IsReadyFor ((length l.piece - l.at) + more) l.self.screen;
  pages : l.self.pages ≡ l.initial.self.pages;
}

abbrev pub decreases-loop-at : goal.decreases-loop-at
decreases-loop-at l = length l.piece - l.at
