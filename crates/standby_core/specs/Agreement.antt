-- What a standby keeps of the Parts of one list.
use Rattle.std.specs.Prelude.{◌≡◌, ℕ, ◌+◌, ◌<◌, ◌≤◌, ◌^◌, List, All, length}
use Rattle.wire_in.specs.declared.record.Record.{Record}
use Rattle.wire_in.specs.Cutting.{bodies_of}
use Rattle.wire_in.specs.Laws.{IsSound}
use Rattle.rulebook.specs.Admission.{IsLawful}
use Rattle.recovery_core.specs.Recoveries.{IsPart}
use Rattle.standby_core.specs.Kept.{kept}
use Rattle.standby_core.specs.Shipped.{parts_from}

-- A standby that holds the begin of a lawful list, and takes the Parts of the list from a number that comes next to it at the latest,
-- keeps the whole list.
abbrev pub PartsAreKept : Type 0
PartsAreKept =
    (limit from : ℕ) (records accepted : List Record) → IsLawful limit records → All IsSound records → length records < 2 ^ 64 → IsPart accepted records → from ≤ length accepted + 1
    → kept limit accepted (bodies_of (parts_from from records)) ≡ records
