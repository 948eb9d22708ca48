-- What a batch keeps.
use Rattle.std.specs.Prelude.{◌≡◌, ℕ, ◌≤◌, List, All, length, take}
use Rattle.wire_in.specs.declared.record.Record.{Record}
use Rattle.wire_in.specs.Spelling.{InRange}

-- 64 places, and at most 64 records in them, in their ranges
pub record IsBatchState (count : ℕ) (places : List Record) : Type 0 where
  pub room : length places ≡ 64
  pub most : count ≤ 64
  pub ranges : All InRange (take count places)
