-- The records of a journal that wait to be evaluated.
use Rattle.std.specs.Prelude.{ℕ, ◌≤◌, List, All, length}
use Rattle.wire_in.specs.declared.record.Record.{Record}
use Rattle.wire_in.specs.Spelling.{InRange}

-- up to so many records, the oldest first
pub record WaitingState : Type 0 where
  pub records : List Record
  pub most : ℕ

-- at most 65,536 records in their ranges, for which room was taken
pub record IsWaiting (waiting : WaitingState) (reserved : ℕ) : Type 0 where
  pub few : length waiting.records ≤ waiting.most
  pub within : waiting.most ≤ 65536
  pub reserve : waiting.most ≤ reserved
  pub ranges : All InRange waiting.records
