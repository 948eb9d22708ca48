use Rattle.std.proofs.Common.{◌≡◌, ◌+◌, ◌-◌, ◌<◌, ◌≤◌, ◌++◌, ℕ, List, [], length, take, Option}
use Rattle.wire_in.specs.Cutting.{pending}
use Rattle.engine_core.specs.Sessions.{Start}
use Rattle.engine_core.specs.Serving.{Judges, IsSound}
use Rattle.engine_core.proofs.session.Session.take_frames.Given as goal

abbrev pub invariant-loop-at : goal.invariant-loop-at
invariant-loop-at l = record {
  within : l.at ≤ length l.piece;
  between : l.at < length l.piece → pending l.self.cutter ≡ [];
  few : l.from + length l.self.round.outcomes ≤ l.at + length l.initial.self.round.outcomes;
  most : l.self.round.most ≡ l.initial.self.round.most;
  judges : (start : Start) (answered : List (List ℕ)) (read : List ℕ) (sent : Option (List ℕ)) → Judges start answered (read ++ take l.from l.piece) sent l.initial.self
      → Judges start answered (read ++ take l.at l.piece) sent l.self;
  sound : IsSound l.initial.self.engine l.initial.self.round.outcomes l.initial.self.answered → IsSound l.self.engine l.self.round.outcomes l.self.answered;
  capacity : l.self.engine.admission.capacity ≡ l.initial.self.engine.admission.capacity;
  evaluated : l.self.engine.evaluated ≡ l.initial.self.engine.evaluated;
  answered : l.self.answered ≡ l.initial.self.answered;
}

abbrev pub decreases-loop-at : goal.decreases-loop-at
decreases-loop-at l = length l.piece - l.at
