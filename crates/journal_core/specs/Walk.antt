-- The header of a disk, and the walk behind it from gate to gate, which reads the marks alone.
use Rattle.std.specs.Prelude.{◌≡◌, ◌≢◌, ◌⊎◌, ℕ, ◌+◌, ◌<◌, ◌≤◌, nat_lt, Bool, true, false, not, if◌then◌else◌, List, [], ◌∷◌, ◌++◌, length, take, drop, All}
use Rattle.std.specs.Int.{w64}
use Rattle.wire_core.specs.Fields.{number}
use Rattle.wire_in.specs.Bases.{SpellsBase}
use Rattle.wire_in.specs.declared.base.Base.{Base}
use Rattle.journal_core.specs.declared.mark.Mark.{Mark}
use Rattle.journal_core.specs.Layout.{AreInTurn, IsLimit, OpensMark, header_of, signature_of}

-- The header

-- the bytes begin with the signature of one of the two versions
abbrev pub IsSigned : List ℕ → Type 0
IsSigned bytes = (is_second : Bool) × (take 8 bytes ≡ signature_of is_second)

-- the bytes begin with a header, and this follows it
abbrev pub BeginsWith : ℕ → List ℕ → List ℕ → Type 0
BeginsWith capacity bytes rest = (is_second : Bool) × (bytes ≡ header_of is_second capacity ++ rest)

-- the disk begins with a header, and a byte stands behind it
pub record HasHeader (capacity : ℕ) (disk : List ℕ) : Type 0 where
  pub long : 17 ≤ length disk
  pub signed : IsSigned disk
  pub limit_is : number w64 8 disk ≡ capacity
  pub range : IsLimit capacity

-- the disk is too short, has another signature, or a capacity outside its range
abbrev pub HasNoHeader : List ℕ → Type 0
HasNoHeader disk = (length disk < 17) ⊎ (¬ IsSigned disk) ⊎ (¬ IsLimit (number w64 8 disk))

-- Marks

-- these marks stand one after the other, the first at this offset, and each where the one before it says
abbrev pub AreMarks : ℕ → List Mark → List ℕ → Type 0
AreMarks at [] disk = Unit {0}
AreMarks at (mark ∷ later) disk = ((rest : List ℕ) × OpensMark mark (drop at disk) rest) × AreMarks (at + 5 + mark.count) later disk

-- and there the next gate is
abbrev pub next_of : ℕ → List Mark → ℕ
next_of at [] = at
next_of at (mark ∷ later) = next_of (at + 5 + mark.count) later

-- whether the last of these marks is that of a batch; of no marks it is given
abbrev pub is_behind : Bool → List Mark → Bool
is_behind before [] = before
is_behind before (mark ∷ later) = is_behind (not mark.is_base) later

-- how many of these marks are those of batches
abbrev pub batch_count : List Mark → ℕ
batch_count [] = 0
batch_count (mark ∷ later) = (if mark.is_base then 0 else 1) + batch_count later

-- The walk

-- whether a block with this mark may stand behind these: a base directly behind a batch, and a batch where fewer stand before it than
-- the journal takes records
abbrev pub may_follow : ℕ → List Mark → Mark → Bool
may_follow capacity before mark = if mark.is_base then is_behind false before else nat_lt (batch_count before) capacity

-- the disk has a header, and behind it these marks, each of which may follow those before it
pub record IsWalked (capacity : ℕ) (marks : List Mark) (disk : List ℕ) : Type 0 where
  pub header : HasHeader capacity disk
  pub stand : AreMarks 16 marks disk
  pub in_turn : AreInTurn false marks
  pub few : batch_count marks ≤ capacity

-- and a closed gate stands behind them
pub record IsWalkedThrough (capacity : ℕ) (marks : List Mark) (disk : List ℕ) : Type 0 where
  pub walked : IsWalked capacity marks disk
  pub rest : List ℕ
  pub closed : drop (next_of 16 marks) disk ≡ 0 ∷ rest

-- an open gate, and no mark behind it
pub record HasNoMark (bytes : List ℕ) : Type 0 where
  pub gate : ℕ
  pub rest : List ℕ
  pub whole : bytes ≡ gate ∷ rest
  pub not_closed : gate ≢ 0
  pub no_mark : (mark : Mark) (rest : List ℕ) → ¬ OpensMark mark bytes rest

-- Behind these marks the walk has no way on: no gate byte stands there, or an open gate with no mark, or the mark of a block that may
-- not follow.
abbrev pub HasNoWay : ℕ → List Mark → List ℕ → Type 0
HasNoWay capacity marks bytes =
    (bytes ≡ []) ⊎ HasNoMark bytes ⊎ ((mark : Mark) × (rest : List ℕ) × OpensMark mark bytes rest × (may_follow capacity marks mark ≡ false))

-- the walk comes to this offset, and has no way on there
pub record IsBrokenAt (capacity at : ℕ) (disk : List ℕ) : Type 0 where
  pub marks : List Mark
  pub walked : IsWalked capacity marks disk
  pub place : next_of 16 marks ≡ at
  pub why : HasNoWay capacity marks (drop at disk)

-- these marks are those of batches
abbrev pub AreOfBatches : List Mark → Type 0
AreOfBatches marks = All (λ mark. mark.is_base ≡ false) marks

-- The walk comes to a closed gate. The last base that it passes, whose gate is this, spells no base, or one of more records than the
-- journal takes.
pub record HasBadBaseAt (capacity at : ℕ) (disk : List ℕ) : Type 0 where
  pub before : List Mark
  pub count : ℕ
  pub later : List Mark
  pub walk : IsWalkedThrough capacity (before ++ record { is_base = true; count = count } ∷ later) disk
  pub last : AreOfBatches later
  pub place : next_of 16 before ≡ at
  pub bad : (b : Base) → SpellsBase (take count (drop (at + 5) disk)) b → capacity < b.records

-- the two cases in which a scan is not begun for damage at this offset
abbrev pub IsUnreadableAt : ℕ → ℕ → List ℕ → Type 0
IsUnreadableAt capacity at disk = IsBrokenAt capacity at disk ⊎ HasBadBaseAt capacity at disk

-- the walk comes to a closed gate, and passes a base
pub record HasBase (disk : List ℕ) : Type 0 where
  pub capacity : ℕ
  pub before : List Mark
  pub count : ℕ
  pub later : List Mark
  pub walk : IsWalkedThrough capacity (before ++ record { is_base = true; count = count } ∷ later) disk
