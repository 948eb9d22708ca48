-- How much of the input was read, and what a read and a send leave alone.
use Rattle.std.specs.Prelude.{◌≡◌, ◌⊎◌, ℕ, ◌≤◌, List, [], length, take, drop, Option, Some, option_map}
use Rattle.host_core.specs.Outside.{Outside, MayLeave, Continues}

-- a prefix of at most so many bytes of the input was taken
pub record ReadsAtMost (most : ℕ) (old new : Option (List ℕ)) : Type 0 where
  pub count : ℕ
  pub within : count ≤ most
  pub left : new ≡ option_map (λ input. drop count input) old

-- a prefix of at most so many bytes of the input was taken, none only at its end or where none may be
pub record TakesPiece (most : ℕ) (old new : Option (List ℕ)) (into : List ℕ) (n : ℕ) : Type 0 where
  pub within : n ≤ most
  pub left : new ≡ option_map (λ input. drop n input) old
  pub given : (input : List ℕ) → old ≡ Some input → take n into ≡ take n input
  pub there : (input : List ℕ) → old ≡ Some input → n ≤ length input
  pub end : (input : List ℕ) → old ≡ Some input → n ≡ 0 → (input ≡ []) ⊎ (most ≡ 0)

-- bytes are sent and the input is read, and the disk is left alone
pub record OnlyExchanges (old new : Outside) : Type 0 where
  pub disk : new.disk ≡ old.disk
  pub left : (image : List ℕ) → MayLeave new image → MayLeave old image
  pub disk_faults : new.disk_faults ≡ old.disk_faults
  pub continues : Continues old new
