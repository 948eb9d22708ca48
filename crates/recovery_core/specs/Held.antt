-- A disk that holds a lawful list of records.
use Rattle.std.specs.Prelude.{◌≡◌, ℕ, List, Some}
use Rattle.host_core.specs.Outside.{Outside}
use Rattle.wire_in.specs.declared.record.Record.{Record}
use Rattle.journal_core.specs.Layout.{Holds}
use Rattle.rulebook.specs.Admission.{IsLawful}

-- the disk holds this lawful list
pub record IsHeld (capacity : ℕ) (held : List Record) (now : Outside) : Type 0 where
  pub disk : List ℕ
  pub known : now.disk ≡ Some disk
  pub holds : Holds disk capacity held
  pub lawful : IsLawful capacity held
