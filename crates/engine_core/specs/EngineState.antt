-- What an engine keeps, and the records that it represents.
use Rattle.std.specs.Prelude.{◌≡◌, ℕ, ◌≤◌, List, length, vec_capacity}
use Rattle.wire_in.specs.declared.record.Record.{Record}
use Rattle.rulebook.specs.Book.{messages_of}
use Rattle.market_core.specs.AdmissionState as admission
use Rattle.evaluator_core.specs.Evaluating as evaluating
use Rattle.market_core.specs.MarketState.{most_messages}
use Rattle.engine_core.specs.declared.engine.Engine.{Engine}

-- Admission stands for the accepted records, the evaluator for those of them that were evaluated, each list with the newest
-- first, under a capacity of records. How many there were is left open.
pub record Stands (engine : Engine) (capacity : ℕ) (accepted evaluated : List Record) : Type 0 where
  pub within : engine.admission.capacity ≡ capacity
  pub admission : admission.Stands engine.admission accepted
  pub evaluator : evaluating.Represents engine.evaluator evaluated

-- and there were as many records and messages as of these lists
pub record Represents (engine : Engine) (capacity : ℕ) (accepted evaluated : List Record) : Type 0 where
  pub stands : Stands engine capacity accepted evaluated
  pub count : engine.admission.count ≡ length accepted
  pub evaluated_is : engine.evaluated ≡ length evaluated
  pub published : engine.published ≡ length (messages_of evaluated)

-- its list of messages has room for those of any record
abbrev pub IsRoomy : Engine → Type 0
IsRoomy engine = most_messages ≤ vec_capacity engine.messages
