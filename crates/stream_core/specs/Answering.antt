-- An input that is read and answered piece by piece.
use Rattle.std.specs.Prelude.{◌≡◌, ◌⊎◌, ℕ, ◌+◌, ◌≤◌, Bool, false, List, length, take, drop, Option, Some}
use Rattle.std.specs.Io.KnownBytes.{append_known}
use Rattle.host_core.specs.Outside.{Outside, Continues}

-- so many bytes of the input were read, and this is known of what waits to be sent
pub record HasRead (knows : ℕ → List ℕ → Outside → Type 0) (input : List ℕ) (count : ℕ) (waiting : List ℕ) (now : Outside) : Type 0 where
  pub input_left : now.input ≡ Some (drop count input)
  pub there : count ≤ length input
  pub reads : knows count waiting now

-- these are the next bytes of the input behind so many, of at most so many
pub record IsNext (input : List ℕ) (most count : ℕ) (piece : List ℕ) : Type 0 where
  pub is : take (length piece) (drop count input) ≡ piece
  pub there : count + length piece ≤ length input
  pub within : count + length piece ≤ most

-- so many bytes of the input were read, and since begin all that they give was sent
pub record HasAnswered (text : List ℕ → List ℕ) (begin : Option (List ℕ)) (input : List ℕ) (count : ℕ) (now : Outside) : Type 0 where
  pub input_left : now.input ≡ Some (drop count input)
  pub there : count ≤ length input
  pub sent : now.sent ≡ append_known begin (text (take count input))

-- nothing more is to be read: no further byte is taken, or all was sent and the input or the bytes that may be read are at their end
pub record IsThrough (text : List ℕ → List ℕ) (begin : Option (List ℕ)) (goes_on : Bool) (input : List ℕ) (count most : ℕ) (now : Outside) : Type 0 where
  pub there : count ≤ length input
  pub within : count ≤ most
  pub ended : (goes_on ≡ false) ⊎ ((now.sent ≡ append_known begin (text (take count input))) × ((count ≡ length input) ⊎ (count ≡ most)))

-- the input is not read
pub record LeavesInput (old new : Outside) : Type 0 where
  pub input : new.input ≡ old.input
  pub asks : new.asks ≡ old.asks
  pub read_faults : new.read_faults ≡ old.read_faults
  pub continues : Continues old new
