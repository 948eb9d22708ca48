-- Want of memory while a journal is read.
use Rattle.std.specs.Prelude.{◌≡◌, ℕ, List, [], ◌∷◌, ◌++◌, Option}
use Rattle.std.specs.Io.KnownBytes.{append_known}
use Rattle.wire_in.specs.declared.base.Base.{Base}
use Rattle.wire_in.specs.declared.record.Record.{Record}
use Rattle.journal_core.specs.Laws.{IsPassed}
use Rattle.journal_core.specs.Walk.{HasBase}
use Rattle.market_core.specs.Kinds.{TakesMemory}
use Rattle.recovery_core.specs.Origins.{IsReadFrom, again}

-- there is an oldest of these records, the newest first, and where there is one worker, it is one that takes memory
pub record TakesFirst (workers : ℕ) (records : List Record) : Type 0 where
  pub x : Record
  pub later : List Record
  pub parts : records ≡ later ++ x ∷ []
  pub takes : workers ≡ 1 → TakesMemory x

-- Since the begin all was sent, and no more, that is asked for again of some of the first of these records, the newest first. Memory
-- was short at the record behind them, which takes memory where there is one worker.
pub record StarvedAtRecord (workers : ℕ) (again : List Record → List ℕ) (records : List Record) (begin now : Option (List ℕ)) : Type 0 where
  pub before : List Record
  pub behind : List Record
  pub parts : records ≡ behind ++ before
  pub short : TakesFirst workers behind
  pub sent : now ≡ append_known begin (again before)

-- Memory was short for the last base of the disk or for what it stands for, and nothing was sent.
pub record StarvedAtBase (disk : List ℕ) (begin now : Option (List ℕ)) : Type 0 where
  pub base : HasBase disk
  pub unsent : now ≡ begin

-- Memory was short at a record of this list, which the disk holds, behind what its last base stands for.
pub record StarvedBehind (workers : ℕ) (from : Option ℕ) (disk : List ℕ) (held : List Record) (begin now : Option (List ℕ)) : Type 0 where
  pub base : Option Base
  pub last : IsReadFrom base disk
  pub before : List Record
  pub passed : IsPassed base before
  pub later : List Record
  pub parts : held ≡ later ++ before
  pub short : StarvedAtRecord workers (again from base) later begin now
