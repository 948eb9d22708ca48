-- A session of a replay at its start.
use Rattle.std.specs.Prelude.{◌≡◌, ℕ, ◌≤◌, []}
use Rattle.evaluator_core.specs.Evaluating.{workers_of, IsIdle}
use Rattle.engine_core.specs.declared.session.Session.{Session}
use Rattle.engine_core.specs.EngineState.{Represents, IsRoomy}
use Rattle.replay_core.specs.Replayed.{capacity}

-- it has read, accepted and judged nothing, and nothing waits
pub record IsFresh (workers : ℕ) (session : Session) : Type 0 where
  pub cutter : session.cutter ≡ []
  pub round : session.round.outcomes ≡ []
  pub some : 1 ≤ session.round.most
  pub most : session.round.most ≤ 65536
  pub answered : session.answered ≡ 0
  pub engine : Represents session.engine capacity [] []
  pub workers_are : workers_of session.engine.evaluator ≡ workers
  pub idle : IsIdle session.engine.evaluator
  pub none : session.engine.admission.count ≡ 0
  pub evaluated : session.engine.evaluated ≡ 0
  pub published : session.engine.published ≡ 0
  pub roomy : IsRoomy session.engine
  pub outbox : session.outbox ≡ []
