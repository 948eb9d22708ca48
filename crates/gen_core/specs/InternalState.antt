-- What a generator keeps, as the records that it has given say it. Private words: no public clause cites them.
use Rattle.std.specs.Prelude.{◌≡◌, ℕ, ◌+◌, ◌-◌, ◌/◌, ◌<◌, ◌≤◌, List, Some, length, slice_get, slice_index, slice_set}
use Rattle.session_core.specs.Moments.{seconds}
use Rattle.wire_in.specs.declared.record.Record.{Record}
use Rattle.wire_in.specs.declared.record.Record.TheVariants.{Trade}
use Rattle.wire_in.specs.Spelling.{InRange}
use Rattle.gen_core.specs.declared.plan.DayPlan.{DayPlan}
use Rattle.gen_core.specs.Generated.{IsPlan, number_behind, flags_behind, session_records, generated}

-- the number of the draws, and the flags of the next trade of each symbol, are those behind these records
pub record IsBehind (plan : DayPlan) (records : List Record) (number : ℕ) (flags : List ℕ) : Type 0 where
  pub number_is : number ≡ number_behind plan records
  pub symbols : length flags ≡ plan.symbols
  pub flags_are : (symbol : ℕ) → symbol < plan.symbols → slice_index flags symbol ≡ flags_behind records symbol

-- so many records were given, of which the first are the day and its listings
pub record IsGenerator (plan : DayPlan) (given number : ℕ) (flags : List ℕ) : Type 0 where
  pub plan_is : IsPlan plan
  pub within : given ≤ 1 + plan.symbols + plan.records
  pub behind : IsBehind plan (session_records plan (given - (1 + plan.symbols))) number flags

-- the records of the session are so far apart, where there are any
abbrev pub IsGap : DayPlan → ℕ → Type 0
IsGap plan gap = 0 < plan.records → gap ≡ seconds 23400 / plan.records

-- the flags after a record: the next trade of its symbol is no opening trade
abbrev pub flags_after : Record → List ℕ → List ℕ
flags_after (Trade m s n p z f) flags = slice_set flags s 0
flags_after _ flags = flags

-- the record behind so many others was given
pub record Steps (plan : DayPlan) (given : ℕ) (x : Record) (number : ℕ) (flags : List ℕ) : Type 0 where
  pub at : slice_get (generated plan) given ≡ Some x
  pub range : InRange x
  pub state : IsGenerator plan (given + 1) number flags
