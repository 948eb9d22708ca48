-- A journal over a host, and what a stop of an append leaves.
use Rattle.std.specs.Prelude.{◌≡◌, ◌⊎◌, ℕ, ◌+◌, ◌*◌, ◌^◌, ◌≤◌, Bool, true, not, if◌then◌else◌, List, [], ◌∷◌, length, map, Option, Some}
use Rattle.host_core.specs.Outside.{Outside, Agrees, MayLeave, IsSettled, Torn, written}
use Rattle.wire_in.specs.declared.record.Record.{Record}
use Rattle.journal_core.specs.Layout.{Block, IsLimit, HoldsTo, Holds, Passes, mark_of, with_batch}
use Rattle.journal_core.specs.Walk.{is_behind}
use Rattle.journal_core.specs.Extended.{IsGrown}

-- The capacity of a journal, how many records it holds, the offset of its next gate, whether its last block is a base, and whether it
-- may be written: since it was read, no call has found a fault.
pub record JournalState : Type 0 where
  pub capacity : ℕ
  pub count : ℕ
  pub gate : ℕ
  pub rolled : Bool
  pub whole : Bool

-- A gate stands within the greatest file, whose offsets are signed numbers of 64 bits, or as many bytes behind it as were added: 41 at
-- most for each record, which are its frame and the gate and the length of its batch, and 163,885 for each base, which stands directly
-- behind a batch.
pub record IsBounded (capacity count gate : ℕ) (rolled : Bool) : Type 0 where
  pub range : IsLimit capacity
  pub within : gate ≤ 2 ^ 63 + 163926 * count + (if rolled then 163885 else 0)

-- the disk holds these records up to the gate of the journal, and the last block is a base where the journal is rolled
pub record Represents (journal : JournalState) (records : List Record) (disk : List ℕ) : Type 0 where
  pub held : HoldsTo journal.capacity journal.gate records disk
  pub count : journal.count ≡ length records
  pub rolled : journal.rolled ≡ not (is_behind true (map mark_of held.blocks))

-- blocks of the disk lead to the gate of the journal, which is closed
pub record Ends (journal : JournalState) (disk : List ℕ) : Type 0 where
  pub blocks : List Block
  pub rest : List ℕ
  pub passes : Passes journal.capacity journal.gate blocks disk (0 ∷ rest)

-- a journal is of this disk, where it is known
abbrev pub IsOfDisk : JournalState → Option (List ℕ) → Type 0
IsOfDisk journal known = (disk : List ℕ) → known ≡ Some disk → Ends journal disk

-- nothing is pending, and the disk, where it is known, holds these records
pub record IsAtRest (journal : JournalState) (records : List Record) (now : Outside) : Type 0 where
  pub settled : IsSettled now
  pub keeps : (disk : List ℕ) → now.disk ≡ Some disk → Represents journal records disk

-- the disk, where it is known, has at least so many bytes
abbrev pub HasBytes : ℕ → Option (List ℕ) → Type 0
HasBytes count known = (disk : List ℕ) → known ≡ Some disk → count ≤ length disk

-- nothing is pending, and the disk, where it is known, holds these records up to a gate
pub record IsSettledAt (capacity gate : ℕ) (records : List Record) (now : Outside) : Type 0 where
  pub settled : IsSettled now
  pub holds : (disk : List ℕ) → now.disk ≡ Some disk → HoldsTo capacity gate records disk

-- A stop while a block is added at a gate: in the first step, which writes what stands behind the gate, or in the second, which opens
-- it. Nothing more was sent.
pub record Stages (gate : ℕ) (content : List ℕ) (old : Outside) (image bytes : List ℕ) : Type 0 where
  pub before : List ℕ
  pub was : MayLeave old before
  pub torn : Torn (gate + 1) (length content) before image ⊎ Torn gate 1 (written (gate + 1) content before) image
  pub sent : Agrees old.sent bytes

-- These records are held, and no batch is being added, or this one is, or it was added.
abbrev pub Adds : (holds : List Record → List (List Record) → Type 0) (records batch : List Record) → Type 0
Adds holds records batch = holds records [] ⊎ holds records (batch ∷ []) ⊎ holds (with_batch records batch) []

-- A stop leaves the records as they were or with the batch, in an image that differs from one before in the range of the batch
-- alone, and nothing more was sent. No batch that is pending has more records than this one.
pub record Appends (capacity gate : ℕ) (records batch : List Record) (old : Outside) (image bytes : List ℕ) : Type 0 where
  pub holds : Holds image capacity records ⊎ Holds image capacity (with_batch records batch)
  pub before : List ℕ
  pub was : MayLeave old before
  pub grown : Adds (λ held pending. IsGrown capacity gate (length batch) held pending before image) records batch
  pub sent : Agrees old.sent bytes
