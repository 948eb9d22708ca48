-- What holds of all images.
use Rattle.std.specs.Prelude.{◌≡◌, ℕ, ◌≤◌, IsTrue, Option, Some, None, List, [], ◌∷◌, ◌++◌, length, map, drop}
use Rattle.wire_in.specs.declared.base.Base.{Base}
use Rattle.wire_in.specs.declared.record.Record.{Record}
use Rattle.rulebook.specs.Base.{base_of}
use Rattle.journal_core.specs.Layout.{Block, Holds, Passes, mark_of, records_of}
use Rattle.journal_core.specs.AtGate.{IsDamaged}
use Rattle.journal_core.specs.Walk.{AreOfBatches, HasNoHeader, IsUnreadableAt}
use Rattle.journal_core.specs.Scan.{ScanState, HasRead, LeadsTo}

-- an image holds at most one list, in one way
pub record HoldsOneList : Type 0 where
  pub blocks : (image : List ℕ) (capacity gate : ℕ) (blocks : List Block) (rest : List ℕ)
      (capacity' gate' : ℕ) (blocks' : List Block) (rest' : List ℕ)
      → Passes capacity gate blocks image (0 ∷ rest) → Passes capacity' gate' blocks' image (0 ∷ rest')
      → (capacity ≡ capacity') × (blocks ≡ blocks') × (gate ≡ gate')
  pub records : (image : List ℕ) (capacity capacity' : ℕ) (records records' : List Record)
      → Holds image capacity records → Holds image capacity' records' → (capacity ≡ capacity') × (records ≡ records')

-- the records that stand before a scan: none, or a list that has this base
abbrev pub IsPassed : Option Base → List Record → Type 0
IsPassed None before = before ≡ []
IsPassed (Some b) before = base_of before ≡ Some b

-- These records are some that the base stands for, then those of the batches, and then more, but none where the scan is at its end.
pub record IsReadOf (records : List Record) (scan : ScanState) (batches : List (List Record)) : Type 0 where
  pub before : List Record
  pub passed : IsPassed scan.base before
  pub more : List Record
  pub whole : records ≡ more ++ (records_of batches ++ before)
  pub all : IsTrue scan.is_closed → records ≡ records_of batches ++ before

-- A scan of a disk that holds a list finds a header, and no damage, where the list has no more records than the capacity. It reads just
-- that list, from its last base on, and from its first gate where it has batches alone.
pub record IsReadable : Type 0 where
  pub header : (disk : List ℕ) (capacity : ℕ) (records : List Record) → Holds disk capacity records → ¬ HasNoHeader disk
  pub begun : (disk : List ℕ) (capacity : ℕ) (records : List Record) (limit at : ℕ)
      → Holds disk capacity records → length records ≤ capacity → ¬ IsUnreadableAt limit at disk
  pub undamaged : (disk : List ℕ) (capacity : ℕ) (records : List Record) (scan : ScanState) (batches : List (List Record))
      → Holds disk capacity records → HasRead scan batches disk → ¬ IsDamaged (drop scan.gate disk)
  pub all : (disk : List ℕ) (capacity : ℕ) (records : List Record) (scan : ScanState) (batches : List (List Record))
      → Holds disk capacity records → HasRead scan batches disk → (scan.capacity ≡ capacity) × IsReadOf records scan batches
  pub start : (disk : List ℕ) (capacity : ℕ) (records : List Record) → Holds disk capacity records → length records ≤ capacity
      → (gate : ℕ) × (base : Option Base) × (rest : List ℕ) × LeadsTo capacity gate base [] disk rest
  pub first : (disk : List ℕ) (capacity : ℕ) (records : List Record) (holds : Holds disk capacity records) → AreOfBatches (map mark_of holds.held.blocks) → length records ≤ capacity
      → (rest : List ℕ) × LeadsTo capacity 16 None [] disk rest

-- Where no scan begins for damage, it is at one offset, a header stands there, and the disk is not read. All scans of a disk begin behind
-- one base.
pub record HasOneStart : Type 0 where
  pub one : (disk : List ℕ) (capacity at capacity' at' : ℕ) → IsUnreadableAt capacity at disk → IsUnreadableAt capacity' at' disk → (capacity ≡ capacity') × (at ≡ at')
  pub header : (disk : List ℕ) (capacity at : ℕ) → IsUnreadableAt capacity at disk → ¬ HasNoHeader disk
  pub unread : (disk : List ℕ) (capacity at limit gate : ℕ) (base : Option Base) (batches : List (List Record)) (rest : List ℕ)
      → IsUnreadableAt capacity at disk → ¬ LeadsTo limit gate base batches disk rest
  pub base : (disk : List ℕ) (capacity gate : ℕ) (base : Option Base) (batches : List (List Record)) (rest : List ℕ)
      (capacity' gate' : ℕ) (base' : Option Base) (batches' : List (List Record)) (rest' : List ℕ)
      → LeadsTo capacity gate base batches disk rest → LeadsTo capacity' gate' base' batches' disk rest' → (capacity ≡ capacity') × (base ≡ base')
