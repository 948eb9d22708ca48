-- A session that has read nothing.
use Rattle.std.proofs.Common.{◌≡◌, ℕ, List, [], Some, refl, sym, ap, arith}
use Rattle.host_core.specs.Outside.{Outside}
use Rattle.wire_in.specs.declared.record.Record.{Record}
use Rattle.wire_in.specs.Cutting.{pending}
use Rattle.engine_core.specs.declared.session.Session.{Session}
use Rattle.evaluator_core.specs.Evaluating.{workers_of, IsIdle}
use Rattle.engine_core.specs.EngineState.{Represents}
use Rattle.stream_core.specs.Pending.{Expects}
use Rattle.engine_core.specs.Sessions.{Start}
use Rattle.engine_core.specs.Answering.{Waits}
use Rattle.engine_core.specs.Serving.{Reads}
use Rattle.engine_core.proofs.Expecting.{expected-none}

-- it has the records of its start, and what is sent before the first answer waits or was sent
pub begins : (holds : List Record → Outside → Type 0) (start : Start) (input : List ℕ) (session : Session) (now : Outside)
    → session.cutter ≡ [] → session.round.outcomes ≡ [] → session.answered ≡ 0 → Represents session.engine start.capacity start.held start.held → workers_of session.engine.evaluator ≡ start.workers → IsIdle session.engine.evaluator → holds start.held now
    → Expects start.sent now.sent session.outbox start.opening → now.input ≡ Some input → Reads holds start input 0 session now
begins holds start input session now cutter round fresh engine workers idle held expects left =
    let rest = ap pending cutter in
    let waits : Waits start [] [] session.answered session.round.outcomes = record { waiting = []; whole = refl; number_is = fresh; outcomes_are = round } in
    let text = rw (sym (expected-none start)) at expects in
    record {
      input_left = left;
      there = omega arith;
      serves = record { answered = []; judges = assumption; held = held };
    }
