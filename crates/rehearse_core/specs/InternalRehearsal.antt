-- A rehearsal on its way. Private words: no public clause cites them.
use Rattle.std.specs.Prelude.{◌≡◌, ◌+◌, ◌*◌, ◌<◌, ◌≤◌, List, [], length, vec_len, vec_capacity}
use Rattle.wire_in.specs.declared.record.Record.{Record}
use Rattle.rulebook.specs.Book.{messages_of}
use Rattle.shard_core.specs.Block.{followed, AreAdmissible}
use Rattle.evaluator_core.specs.Evaluating.{IsAhead}
use Rattle.gen_core.specs.declared.tally.Tally.{Tally}
use Rattle.gen_core.specs.Tallies.{tally_of}
use Rattle.gen_core.specs.SummaryLines.{IsSum}
use Rattle.engine_core.specs.declared.engine.Engine.{Engine}
use Rattle.engine_core.specs.EngineState.{Represents}
use Rattle.rehearse_core.specs.declared.rehearsal.Rehearsal.{Rehearsal}
use Rattle.replay_core.specs.Replayed.{capacity}
use Rattle.rehearse_core.specs.Rehearsed.{accepted_after}

-- counts stay far below the ends of their types
pub record IsSound (engine : Engine) (tally : Tally) : Type 0 where
  pub few : engine.published ≤ 262146 * engine.evaluated
  pub counted : tally.messages ≡ engine.published
  pub sum : IsSum tally

-- there is room for one record more that waits
pub record HasRoom (rehearsal : Rehearsal) : Type 0 where
  pub few : vec_len rehearsal.block < rehearsal.most
  pub within : rehearsal.most ≤ 65536
  pub reserve : rehearsal.most ≤ vec_capacity rehearsal.block

-- of these records the last ones are left; of the accepted ones some wait to be evaluated, and these are evaluated ahead
pub record Rehearses (all left waiting early : List Record) (engine : Engine) (tally : Tally) : Type 0 where
  pub evaluated : List Record
  pub represents : Represents engine capacity (followed evaluated waiting) evaluated
  pub admissible : AreAdmissible capacity evaluated waiting
  pub ahead : IsAhead engine.evaluator early
  pub counted : tally ≡ tally_of (messages_of evaluated)
  pub rest : accepted_after (followed evaluated waiting) left ≡ accepted_after [] all
  pub within : engine.evaluated + length waiting + length left ≤ length all

-- the accepted ones, the newest first
abbrev pub accepted_by : {all left waiting early : List Record} {engine : Engine} {tally : Tally} → Rehearses all left waiting early engine tally → List Record
accepted_by {waiting = waiting} was = followed was.evaluated waiting
