-- A scan of a journal, and the disk that it reads.
use Rattle.std.specs.Prelude.{◌≡◌, ℕ, ◌+◌, ◌<◌, ◌≤◌, ◌^◌, ◌==◌, Bool, true, false, IsTrue, Option, Some, None, IfSome, List, [], ◌∷◌, ◌++◌, length, map}
use Rattle.wire_in.specs.Bases.{IsInRange, SpellsBase}
use Rattle.wire_in.specs.declared.base.Base.{Base}
use Rattle.wire_in.specs.declared.record.Record.{Record}
use Rattle.journal_core.specs.declared.mark.Mark.{Mark}
use Rattle.journal_core.specs.Layout.{AreBatches, Block, IsLimit, Passes, mark_of, records_of}
use Rattle.journal_core.specs.Walk.{AreOfBatches, IsWalkedThrough}

-- how many records and messages a base has; none has 0
abbrev pub records_before : Option Base → ℕ
records_before None = 0
records_before (Some b) = b.records

abbrev pub messages_before : Option Base → ℕ
messages_before None = 0
messages_before (Some b) = b.messages

-- whether there is a base that has so many records
abbrev pub is_rolled : Option Base → ℕ → Bool
is_rolled None count = false
is_rolled (Some b) count = b.records == count

-- these blocks are none, or the last of them spells this base, which has at most so many records
abbrev pub EndsWith : ℕ → Option Base → List Block → Type 0
EndsWith capacity None passed = passed ≡ []
EndsWith capacity (Some b) passed =
    (before : List Block) × (body : List ℕ) × (passed ≡ before ++ record { is_base = true; body = body } ∷ []) × SpellsBase body b × (b.records ≤ capacity)

-- The disk begins with a header and blocks up to its last base. Behind it these batches stand, which end at this offset, and this
-- follows them. A walk from gate to gate passes the blocks, and then batches alone, and comes to a closed gate.
pub record LeadsTo (capacity gate : ℕ) (base : Option Base) (batches : List (List Record)) (disk rest : List ℕ) : Type 0 where
  pub passed : List Block
  pub ends : EndsWith capacity base passed
  pub start : ℕ
  pub prefix : List ℕ
  pub passes : Passes capacity start passed disk (prefix ++ rest)
  pub spelled : AreBatches batches prefix
  pub offset : start + length prefix ≡ gate
  pub later : List Mark
  pub last : AreOfBatches later
  pub walk : IsWalkedThrough capacity (map mark_of passed ++ later) disk

-- the last base of the disk has so many messages, 0 where there is none
pub record IsBased (number : ℕ) (disk : List ℕ) : Type 0 where
  pub capacity : ℕ
  pub start : ℕ
  pub base : Option Base
  pub rest : List ℕ
  pub leads : LeadsTo capacity start base [] disk rest
  pub is : messages_before base ≡ number

-- The capacity of the journal, its last base, how many records that has with those that were handed out, the offset of the gate of the
-- last batch (or of the first gate that is read), the offset of the gate that is read next, whether it was found closed, the length of
-- the disk, and what of it was read ahead, from the next gate on.
pub record ScanState : Type 0 where
  pub capacity : ℕ
  pub base : Option Base
  pub count : ℕ
  pub at : ℕ
  pub gate : ℕ
  pub is_closed : Bool
  pub size : ℕ
  pub ahead : List ℕ

-- what a scan keeps; the length of a file is a signed number of 64 bits
pub record IsOrdered (capacity : ℕ) (base : Option Base) (count gate size : ℕ) (ahead : List ℕ) : Type 0 where
  pub range : IsLimit capacity
  pub base_range : IfSome base IsInRange
  pub base_few : IfSome base (λ b. b.records ≤ capacity)
  pub count_within : count ≤ records_before base + gate
  pub ahead_within : gate + length ahead ≤ size
  pub small : size < 2 ^ 63

-- the scan has handed out these batches behind the last base of this disk
pub record HasRead (scan : ScanState) (batches : List (List Record)) (disk : List ℕ) : Type 0 where
  pub size : scan.size ≡ length disk
  pub rest : List ℕ
  pub leads : LeadsTo scan.capacity scan.gate scan.base batches disk (scan.ahead ++ rest)
  pub count : scan.count ≡ records_before scan.base + length (records_of batches)
  pub closed : IsTrue scan.is_closed → (more : List ℕ) × (scan.ahead ++ rest ≡ 0 ∷ more)

-- a scan is of this disk, where it is known
abbrev pub IsScanOf : ScanState → Option (List ℕ) → Type 0
IsScanOf scan known = (disk : List ℕ) → known ≡ Some disk → (batches : List (List Record)) × HasRead scan batches disk

-- a scan that was just begun: behind the last base, and at offset 16 where there is none
pub record IsBegun (scan : ScanState) : Type 0 where
  pub range : IsLimit scan.capacity
  pub count : scan.count ≡ records_before scan.base
  pub at : scan.at ≡ scan.gate
  pub first : scan.base ≡ None → scan.gate ≡ 16
