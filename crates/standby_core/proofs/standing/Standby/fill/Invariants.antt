use Rattle.std.proofs.Common.{◌≡◌, ◌+◌, ◌-◌, ◌≤◌, ◌++◌, ℕ, List, length, take}
use Rattle.std.specs.Prelude.{Option}
use Rattle.standby_core.specs.Standing.{Gathers, Given, IsSound}
use Rattle.standby_core.proofs.standing.Standby.fill.Given as goal

abbrev pub invariant-loop-at : goal.invariant-loop-at
invariant-loop-at l = record {
  within : l.at ≤ length l.piece;
  few : l.from + length l.self.round.replies ≤ l.at;
  most : l.self.round.most ≡ l.initial.self.round.most;
  gathers : (given : Given) (answered : List (List ℕ)) (read : List ℕ) → Gathers given answered (read ++ take l.from l.piece) l.initial.self → Gathers given answered (read ++ take l.at l.piece) l.self;
  sound : (known : Option (List ℕ)) → IsSound l.initial.self known → IsSound l.self known;
  journal : l.self.journal ≡ l.initial.self.journal;
  answered : l.self.answered ≡ l.initial.self.answered;
}

abbrev pub decreases-loop-at : goal.decreases-loop-at
decreases-loop-at l = length l.piece - l.at
