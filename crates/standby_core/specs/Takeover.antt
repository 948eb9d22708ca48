-- What a later session finds in the journal of a standby.
use Rattle.std.specs.Prelude.{◌≡◌, ℕ, ◌<◌, ◌≤◌, ◌^◌, List, ◌∷◌, ◌++◌, length}
use Rattle.wire_in.specs.Cutting.{bodies_of}
use Rattle.wire_in.specs.declared.record.Record.{Record}
use Rattle.journal_core.specs.Layout.{Holds}
use Rattle.rulebook.specs.Admission.{IsLawful}
use Rattle.recovery_core.specs.Recoveries.{IsPart}
use Rattle.standby_core.specs.Kept.{ArePartsOf}
use Rattle.standby_core.specs.Parts.{have_body}
use Rattle.standby_core.specs.StoodBy.{Begin, IsSafe}

-- a Have of this count is among the frames of these bytes
pub record HasHave (count : ℕ) (bytes : List ℕ) : Type 0 where
  pub below : count < 2 ^ 64
  pub before : List (List ℕ)
  pub later : List (List ℕ)
  pub is : bodies_of bytes ≡ before ++ have_body count ∷ later

-- The image holds the first of these records, a lawful list, and among them each one that a Have among the bytes counts.
pub record HoldsFirst (capacity : ℕ) (records : List Record) (since image : List ℕ) : Type 0 where
  pub held : List Record
  pub holds : Holds image capacity held
  pub lawful : IsLawful capacity held
  pub first : IsPart held records
  pub counted : (count : ℕ) → HasHave count since → count ≤ length held

-- Where each Part carries the record of its number in one list, and the standby began with the first of its records, what a stop leaves
-- holds the first of them, with each one that a Have that was sent counts.
abbrev pub TakesOver : Type 0
TakesOver =
    (begin : Begin) (records : List Record) (bodies : List (List ℕ)) (image bytes : List ℕ) → IsLawful begin.capacity begin.held → IsPart begin.held records → ArePartsOf records bodies
    → (safe : IsSafe begin bodies image bytes) → HoldsFirst begin.capacity records safe.since image
