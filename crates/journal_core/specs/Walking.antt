-- How far a walk has come.
use Rattle.std.specs.Prelude.{◌≡◌, ◌⊎◌, ℕ, ◌+◌, ◌<◌, ◌≤◌, ◌^◌, nat_lt, Bool, true, false, not, if◌then◌else◌, Option, Some, None, IfSome, List, ◌∷◌, ◌++◌, length, drop}
use Rattle.journal_core.specs.declared.mark.Mark.{Mark}
use Rattle.journal_core.specs.declared.walk.BaseAt.{BaseAt}
use Rattle.journal_core.specs.declared.walk.Walk.{Walk}
use Rattle.journal_core.specs.Layout.{IsLimit}
use Rattle.journal_core.specs.Walk.{AreOfBatches, BeginsWith, IsWalked, batch_count, is_behind, next_of}

-- this base lies between the first gate and that offset
pub record IsWithin (gate : ℕ) (base : BaseAt) : Type 0 where
  pub least : 40 ≤ base.count
  pub most : base.count ≤ 163880
  pub before : base.gate + 5 + base.count ≤ gate

-- what a walk keeps over every host; the length of a file is a signed number of 64 bits
pub record IsWalking (walk : Walk) : Type 0 where
  pub range : IsLimit walk.capacity
  pub small : walk.size < 2 ^ 63
  pub inside : walk.gate < walk.size
  pub first : 16 ≤ walk.gate
  pub started : walk.start ≤ walk.gate
  pub read : walk.start + length walk.ahead ≤ walk.size
  pub base : IfSome walk.base (IsWithin walk.gate)

-- the gate and the mark behind it were read, or all up to the end of the disk
abbrev pub IsThere : Walk → Type 0
IsThere walk = (walk.gate + 5 ≤ walk.start + length walk.ahead) ⊎ (walk.start + length walk.ahead ≡ walk.size)

-- whether a block with this mark may follow what the walk has passed
abbrev pub takes : Walk → Mark → Bool
takes walk mark = if mark.is_base then walk.is_behind else nat_lt walk.batches walk.capacity

-- the walk behind such a block
abbrev pub passed : Walk → Mark → Walk
passed walk mark = record walk {
  gate = walk.gate + 5 + mark.count;
  batches = if mark.is_base then walk.batches else walk.batches + 1;
  is_behind = not mark.is_base;
  base = if mark.is_base then Some (record { gate = walk.gate; count = mark.count }) else walk.base;
}

-- the last base among these marks has its gate and its length there, or they have none
abbrev pub IsLastBase : Option BaseAt → List Mark → Type 0
IsLastBase None marks = AreOfBatches marks
IsLastBase (Some base) marks =
    (before : List Mark) × (later : List Mark) × (marks ≡ before ++ record { is_base = true; count = base.count } ∷ later)
    × AreOfBatches later × (next_of 16 before ≡ base.gate)

-- the walk has come to its gate on this disk
pub record HasWalked (walk : Walk) (disk : List ℕ) : Type 0 where
  pub size : walk.size ≡ length disk
  pub begins : BeginsWith walk.capacity disk (drop 16 disk)
  pub marks : List Mark
  pub walked : IsWalked walk.capacity marks disk
  pub place : next_of 16 marks ≡ walk.gate
  pub batches : batch_count marks ≡ walk.batches
  pub behind : is_behind false marks ≡ walk.is_behind
  pub base : IsLastBase walk.base marks
  pub rest : List ℕ
  pub read : drop walk.start disk ≡ walk.ahead ++ rest

-- a closed gate stands there
abbrev pub IsClosedAt : ℕ → List ℕ → Type 0
IsClosedAt gate disk = (rest : List ℕ) × (drop gate disk ≡ 0 ∷ rest)
