-- A journal's file that grew by batches, and by nothing else.
use Rattle.std.specs.Prelude.{◌≡◌, ℕ, ◌+◌, ◌-◌, ◌≤◌, List, [], ◌∷◌, ◌++◌, length, All, Option, Some}
use Rattle.std.specs.List.{flat_map}
use Rattle.host_core.specs.Outside.{Outside, Rose, Torn, written}
use Rattle.wire_in.specs.declared.record.Record.{Record}
use Rattle.journal_core.specs.Layout.{IsBatch, HoldsTo, content, records_of}

-- these batches as they are written, one after the other, each behind an open gate
abbrev pub opened_batches : List (List Record) → List ℕ
opened_batches batches = flat_map (λ batch. 1 ∷ content batch) batches

-- no batch of these has more records than so many
abbrev pub HaveAtMost : ℕ → List (List Record) → Type 0
HaveAtMost most batches = All (λ batch. length batch ≤ most) batches

-- The file is the old one, but that from its closed gate on batches of at most so many records stand as they are written, and
-- behind them a closed gate. It holds their records, the newest first, and then those that the old one held.
pub record IsExtended (capacity gate most : ℕ) (held : List Record) (old : List ℕ) (known : Option (List ℕ)) : Type 0 where
  pub batches : List (List Record)
  pub valid : All IsBatch batches
  pub few : HaveAtMost most batches
  pub file : known ≡ Some (written gate (opened_batches batches ++ 0 ∷ []) old)
  pub holds : HoldsTo capacity (gate + length (opened_batches batches)) (records_of batches ++ held) (written gate (opened_batches batches ++ 0 ∷ []) old)

-- Where the old file held a list up to a closed gate, and no fault of the disk was counted since, it was only extended, by batches
-- of at most so many records.
pub record Extends (most : ℕ) (old new : Outside) : Type 0 where
  pub later : old.disk_faults ≤ new.disk_faults
  pub file : ¬ (Rose old.disk_faults new.disk_faults) → (capacity gate : ℕ) (held : List Record) (disk : List ℕ) → old.disk ≡ Some disk → HoldsTo capacity gate held disk
      → IsExtended capacity gate most held disk new.disk

-- An image that a stop may leave while batches are added to an old file: it holds these records up to a gate of its own, and it
-- differs from the old file only from the old gate on, and up to its own gate, or up to the end of the range at this gate of the
-- batches that are pending: those whose adding was begun and is not done. These have at most so many records each.
pub record IsGrown (capacity gate most : ℕ) (records : List Record) (pending : List (List Record)) (old image : List ℕ) : Type 0 where
  pub next : ℕ
  pub holds : HoldsTo capacity next records image
  pub behind : gate ≤ next
  pub valid : All IsBatch pending
  pub few : HaveAtMost most pending
  pub torn : Torn gate (next - gate + length (opened_batches pending ++ 0 ∷ [])) old image
