-- Frames that wait to be answered.
use Rattle.std.specs.Prelude.{◌≡◌, ℕ, List, ◌++◌, length, Option, Result, Ok, Err, OnOk}
use Rattle.std.specs.Io.KnownBytes.{append_known}
use Rattle.host_core.specs.declared.fault.Fault.{Fault}
use Rattle.host_core.specs.declared.fault.Fault.TheVariants.{Memory}
use Rattle.host_core.specs.Outside.{Outside, Elapses}
use Rattle.wire_in.specs.declared.record.Record.{Record}
use Rattle.market_core.specs.Kinds.{TakesMemory}
use Rattle.evaluator_core.specs.Evaluating.{workers_of, IsAhead}
use Rattle.engine_core.specs.declared.engine.Engine.{Engine}
use Rattle.stream_core.specs.Pending.{Expects, SendsPrefix}
use Rattle.engine_core.specs.EngineState.{Represents}
use Rattle.engine_core.specs.Rounds.{Outcome, outcomes_of}
use Rattle.engine_core.specs.Sessions.{Start, Starved, held_after, expected}

-- of all frames these were answered, and the others wait with their outcomes
pub record Waits (start : Start) (answered all : List (List ℕ)) (number : ℕ) (outcomes : List Outcome) : Type 0 where
  pub waiting : List (List ℕ)
  pub whole : answered ++ waiting ≡ all
  pub number_is : number ≡ length answered
  pub outcomes_are : outcomes ≡ outcomes_of start.capacity (held_after start answered) waiting

-- all frames were judged, and the answered ones evaluated, by as many workers as the session has; of the others these records
-- were evaluated ahead
pub record Evaluates (start : Start) (answered all : List (List ℕ)) (early : List Record) (engine : Engine) : Type 0 where
  pub engine_is : Represents engine start.capacity (held_after start all) (held_after start answered)
  pub workers : workers_of engine.evaluator ≡ start.workers
  pub ahead : IsAhead engine.evaluator early

-- and what is expected for the answered ones was sent but for what is pending
pub record Answers (start : Start) (answered all : List (List ℕ)) (number : ℕ) (outcomes : List Outcome) (early : List Record) (engine : Engine) (outbox : List ℕ) (sent : Option (List ℕ)) : Type 0 where
  pub waits : Waits start answered all number outcomes
  pub evaluates : Evaluates start answered all early engine
  pub pending_is : Expects start.sent sent outbox (expected start answered)

-- memory was short for this record of a frame, which takes memory where there is one worker, and all that was expected
-- before it was sent
pub record IsShort (workers : ℕ) (outcome : Outcome) (begin now : Option (List ℕ)) (text : List ℕ) : Type 0 where
  pub x : Record
  pub is : outcome ≡ Ok x
  pub takes : workers ≡ 1 → TakesMemory x
  pub sent : now ≡ append_known begin text

-- since begin this text was sent but for what is pending, and a stop meanwhile left a prefix of it sent
pub record Appends {T : Type 0} (result : Result T Fault) (begin : Option (List ℕ)) (text outbox : List ℕ) (old new : Outside) : Type 0 where
  pub pending : OnOk result (Expects begin new.sent outbox text)
  pub moments : Elapses old new (SendsPrefix begin text old)

-- Frames were answered: what waits now, that a stop meanwhile left a prefix of what is expected for all of them sent, and that
-- memory may have been short.
pub record Replies {T : Type 0} (result : Result T Fault) (start : Start) (all : List (List ℕ)) (number : ℕ) (outcomes : List Outcome) (early : List Record) (engine : Engine) (outbox : List ℕ) (old new : Outside) : Type 0 where
  pub answers : OnOk result ((answered : List (List ℕ)) × Answers start answered all number outcomes early engine outbox new.sent)
  pub moments : Elapses old new (SendsPrefix start.sent (expected start all) old)
  pub starved : result ≡ Err Memory → Starved start all new
