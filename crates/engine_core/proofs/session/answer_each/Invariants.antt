use Rattle.std.proofs.Common.{◌≡◌, ◌+◌, ℕ, List, length, drop, Ok}
use Rattle.host_core.specs.Outside.{NoFault}
use Rattle.host_core.specs.Frames.{OnlySends}
use Rattle.engine_core.specs.Sessions.{Start}
use Rattle.engine_core.specs.Rounds.{Rise, joined, records_in}
use Rattle.engine_core.specs.Answering.{Answers, Replies}
use Rattle.engine_core.specs.Serving.{IsSound}
use Rattle.engine_core.proofs.session.answer_each.Given as goal

abbrev pub invariant-loop-refused : goal.invariant-loop-refused
invariant-loop-refused g l = record {
  number : l.number ≡ l.answered + (l.begin + l.refused-index);
  rise : Rise l.begin (drop l.refused-index l.refused-items) (length l.records);
  replies : (start : Start) (before all : List (List ℕ)) → l.acknowledges ≡ start.acknowledges
      → Answers start before all l.answered l.round.outcomes (records_in l.round.outcomes) l.initial.engine l.initial.outbox (g.H.Host.outside l.initial.host).sent
      → Replies {T = Unit {0}} (Ok tt) start all l.number (joined l.begin (drop l.refused-index l.refused-items) l.records) (records_in (joined l.begin (drop l.refused-index l.refused-items) l.records)) l.engine l.outbox (g.H.Host.outside l.initial.host) (g.H.Host.outside l.host);
  admission : l.engine.admission ≡ l.initial.engine.admission;
  sound : IsSound l.engine (joined l.begin (drop l.refused-index l.refused-items) l.records) l.number;
  keeps : OnlySends (g.H.Host.outside l.initial.host) (g.H.Host.outside l.host);
  none : NoFault (g.H.Host.outside l.initial.host) (g.H.Host.outside l.host);
}
