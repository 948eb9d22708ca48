-- The bytes of a journal: a header, then blocks, each behind a gate other than 0, and then a gate 0. What follows is free. A block is
-- a batch of records or a base; its mark says which, and how long it is. Blocks, batches and the records of a batch have the oldest
-- first. The records that are held have the newest first.
use Rattle.std.specs.Prelude.{◌≡◌, ◌≢◌, ℕ, ◌+◌, ◌≤◌, Bool, true, false, not, if◌then◌else◌, Some, List, [], ◌∷◌, ◌++◌, length, map, reverse, All}
use Rattle.std.specs.List.{flat_map}
use Rattle.std.specs.Int.{w32, w64, to_be_bytes}
use Rattle.wire_core.specs.Frames.{framed}
use Rattle.wire_in.specs.Bases.{SpellsBase, base_bytes}
use Rattle.wire_in.specs.declared.base.Base.{Base}
use Rattle.wire_in.specs.declared.record.Record.{Record}
use Rattle.wire_in.specs.Laws.{IsSound}
use Rattle.wire_in.specs.Spelling.{body_of}
use Rattle.rulebook.specs.Base.{base_of}
use Rattle.journal_core.specs.declared.mark.Mark.{Mark}

-- the ASCII text HALTJNL1, or HALTJNL2 of the second version
abbrev pub signature_of : Bool → List ℕ
signature_of is_second = 72 ∷ 65 ∷ 76 ∷ 84 ∷ 74 ∷ 78 ∷ 76 ∷ (if is_second then 50 else 49) ∷ []

-- how many records a journal may take
pub record IsLimit (capacity : ℕ) : Type 0 where
  pub least : 1 ≤ capacity
  pub most : capacity ≤ 2000000000

-- the signature, and the capacity in eight bytes
abbrev pub header_of : Bool → ℕ → List ℕ
header_of is_second capacity = signature_of is_second ++ to_be_bytes w64 capacity

abbrev pub frame_of : Record → List ℕ
frame_of x = framed (body_of x)

-- the frames of some records, one after the other
abbrev pub frames_of : List Record → List ℕ
frames_of records = flat_map frame_of records

-- one to 64 records that frames can say
pub record IsBatch (records : List Record) : Type 0 where
  pub least : 1 ≤ length records
  pub most : length records ≤ 64
  pub sound : All IsSound records

-- Blocks by their bytes

-- how many bytes a batch or a base may have
abbrev pub IsLength : Bool → ℕ → Type 0
IsLength false count = (10 ≤ count) × (count ≤ 2304)
IsLength true count = (40 ≤ count) × (count ≤ 163880)

-- the number of a mark: that of a base has 2,147,483,648 more
abbrev pub marked : Mark → ℕ
marked mark = if mark.is_base then 2147483648 + mark.count else mark.count

-- the bytes begin with an open gate and this mark, and this follows them
pub record OpensMark (mark : Mark) (bytes rest : List ℕ) : Type 0 where
  pub gate : ℕ
  pub not_closed : gate ≢ 0
  pub form : IsLength mark.is_base mark.count
  pub whole : bytes ≡ gate ∷ (to_be_bytes w32 (marked mark) ++ rest)

-- whether it is a base, and its bytes
pub record Block : Type 0 where
  pub is_base : Bool
  pub body : List ℕ

abbrev pub mark_of : Block → Mark
mark_of block = record { is_base = block.is_base; count = length block.body }

-- what stands behind the gate of a block: its mark and its body
abbrev pub content_of : Block → List ℕ
content_of block = to_be_bytes w32 (marked (mark_of block)) ++ block.body

-- the bytes begin with a block behind an open gate, and this follows it
pub record OpensBlock (block : Block) (bytes rest : List ℕ) : Type 0 where
  pub gate : ℕ
  pub not_closed : gate ≢ 0
  pub form : IsLength block.is_base (length block.body)
  pub whole : bytes ≡ gate ∷ (content_of block ++ rest)

-- the bytes are these blocks, one after the other
abbrev pub AreBlocks : List Block → List ℕ → Type 0
AreBlocks [] bytes = bytes ≡ []
AreBlocks (block ∷ blocks) bytes = (rest : List ℕ) × OpensBlock block bytes rest × AreBlocks blocks rest

-- the image begins with a header and these blocks, which end at this offset, and this follows them
pub record Passes (capacity gate : ℕ) (blocks : List Block) (image rest : List ℕ) : Type 0 where
  pub is_second : Bool
  pub range : IsLimit capacity
  pub prefix : List ℕ
  pub spelled : AreBlocks blocks prefix
  pub offset : 16 + length prefix ≡ gate
  pub whole : image ≡ header_of is_second capacity ++ prefix ++ rest

-- each base stands directly behind a batch; whether one stands before the first mark is given
abbrev pub AreInTurn : Bool → List Mark → Type 0
AreInTurn behind [] = Unit {0}
AreInTurn behind (mark ∷ later) = ((if mark.is_base then behind else true) ≡ true) × AreInTurn (not mark.is_base) later

-- Batches

-- a batch and a base as blocks
abbrev pub block_of : List Record → Block
block_of batch = record { is_base = false; body = frames_of batch }

abbrev pub base_block : Base → Block
base_block b = record { is_base = true; body = base_bytes b }

-- what stands behind the gate of a batch: how many bytes its frames have, in four bytes, and the frames
abbrev pub content : List Record → List ℕ
content batch = to_be_bytes w32 (length (frames_of batch)) ++ frames_of batch

-- a block as it is written: an open gate, its content, and the closed gate behind it
abbrev pub stored_block : Block → List ℕ
stored_block block = 1 ∷ (content_of block ++ 0 ∷ [])

abbrev pub stored_batch : List Record → List ℕ
stored_batch batch = 1 ∷ (content batch ++ 0 ∷ [])

-- the bytes begin with a batch behind an open gate, and this follows it
pub record Opens (batch : List Record) (bytes rest : List ℕ) : Type 0 where
  pub gate : ℕ
  pub not_closed : gate ≢ 0
  pub valid : IsBatch batch
  pub whole : bytes ≡ gate ∷ (content batch ++ rest)

-- the bytes are these batches, one after the other, each behind an open gate
abbrev pub AreBatches : List (List Record) → List ℕ → Type 0
AreBatches [] bytes = bytes ≡ []
AreBatches (batch ∷ batches) bytes = (rest : List ℕ) × Opens batch bytes rest × AreBatches batches rest

-- the records that are held once a batch is added
abbrev pub with_batch : List Record → List Record → List Record
with_batch held batch = reverse batch ++ held

-- the records of some batches, the newest first
abbrev pub records_of : List (List Record) → List Record
records_of batches = reverse (flat_map (λ batch. batch) batches)

-- Blocks by what they say

-- a batch adds its records to those that are held, and a base is that of the records held
abbrev pub AddsBody : Bool → List ℕ → List Record → List Record → Type 0
AddsBody false body held next = (batch : List Record) × IsBatch batch × (body ≡ frames_of batch) × (next ≡ with_batch held batch)
AddsBody true body held next = (b : Base) × SpellsBase body b × (base_of held ≡ Some b) × (next ≡ held)

-- these blocks lead from some held records to others
abbrev pub AddBlocks : List Block → List Record → List Record → Type 0
AddBlocks [] held all = all ≡ held
AddBlocks (block ∷ later) held all = (next : List Record) × AddsBody block.is_base block.body held next × AddBlocks later next all

-- the image is a header, blocks that lead to these records, a closed gate at this offset, and then any bytes; each base stands directly
-- behind a batch
pub record HoldsTo (capacity gate : ℕ) (records : List Record) (image : List ℕ) : Type 0 where
  pub blocks : List Block
  pub rest : List ℕ
  pub passes : Passes capacity gate blocks image (0 ∷ rest)
  pub in_turn : AreInTurn false (map mark_of blocks)
  pub adds : AddBlocks blocks [] records

-- the image holds these records under this capacity
pub record Holds (image : List ℕ) (capacity : ℕ) (records : List Record) : Type 0 where
  pub gate : ℕ
  pub held : HoldsTo capacity gate records image
