use Rattle.std.proofs.Common.{◌≡◌, ◌+◌, ◌++◌, ℕ, List, map, drop, Ok}
use Rattle.host_core.specs.Outside.{NoFault}
use Rattle.host_core.specs.Frames.{OnlySends}
use Rattle.engine_core.specs.Serving.{IsSound}
use Rattle.engine_core.specs.Sessions.{Start}
use Rattle.engine_core.specs.Rounds.{Outcome, records_in}
use Rattle.engine_core.specs.Answering.{Answers, Replies}
use Rattle.engine_core.proofs.session.answer_run.Given as goal

abbrev pub invariant-loop-x : goal.invariant-loop-x
invariant-loop-x g l = record {
  replies : (start : Start) (before all : List (List ℕ)) (number : ℕ) (later : List Outcome) → l.acknowledges ≡ start.acknowledges
      → Answers start before all number (map Ok l.records ++ later) (records_in (map Ok l.records ++ later)) l.initial.engine l.initial.outbox (g.H.Host.outside l.initial.host).sent
      → Replies {T = Unit {0}} (Ok tt) start all (number + l.x-index) (map Ok (drop l.x-index l.records) ++ later) (records_in (map Ok (drop l.x-index l.records) ++ later)) l.engine l.outbox (g.H.Host.outside l.initial.host) (g.H.Host.outside l.host);
  sound : (later : List Outcome) (answered : ℕ) → IsSound l.initial.engine (map Ok l.records ++ later) answered → IsSound l.engine (map Ok (drop l.x-index l.records) ++ later) (answered + l.x-index);
  admission : l.engine.admission ≡ l.initial.engine.admission;
  keeps : OnlySends (g.H.Host.outside l.initial.host) (g.H.Host.outside l.host);
  none : NoFault (g.H.Host.outside l.initial.host) (g.H.Host.outside l.host);
}
