-- A stream of frames, each a length byte and that many bytes.
use Rattle.std.specs.Prelude.{◌≡◌, ℕ, ◌+◌, ◌<◌, ◌≤◌, Bool, nat_le, ◌==◌, if◌then◌else◌, List, [], ◌∷◌, ◌++◌, length, take, drop, slice_index}
use Rattle.std.specs.List.{flat_map}
use Rattle.wire_core.specs.Frames.{framed}

-- how long the frame is that begins so, with its length byte
abbrev pub need : List ℕ → ℕ
need prefix = slice_index prefix 0 + 1

-- less than a whole frame
abbrev pub IsPartial : List ℕ → Type 0
IsPartial rest = length rest < need rest

-- at most a whole frame
abbrev pub IsPrefix : List ℕ → Type 0
IsPrefix held = length held ≤ need held

abbrev pub is_frame : List ℕ → Bool
is_frame held = length held == need held

-- what of the bytes held belongs to the frame that comes next
abbrev pub pending : List ℕ → List ℕ
pending held = if is_frame held then [] else held

-- the body of the frame that is held, if it is whole
abbrev pub found : List ℕ → List (List ℕ)
found held = if is_frame held then drop 1 held ∷ [] else []

-- the bytes are these frames, one after the other, and then less than a whole one
pub record IsCut (bytes : List ℕ) (bodies : List (List ℕ)) (rest : List ℕ) : Type 0 where
  pub whole : bytes ≡ flat_map framed bodies ++ rest
  pub partial : IsPartial rest

-- The bodies of the whole frames that some bytes begin with, and what is left behind them. The first argument is at
-- least as long as the bytes, and serves only to end the recursion.
abbrev pub cut_within : List ℕ → List ℕ → List (List ℕ) × List ℕ
cut_within [] bytes = ([], bytes)
cut_within (_ ∷ fuel) [] = ([], [])
cut_within (_ ∷ fuel) (n ∷ bytes) =
    if nat_le n (length bytes)
    then (take n bytes ∷ (cut_within fuel (drop n bytes)).0, (cut_within fuel (drop n bytes)).1)
    else ([], n ∷ bytes)

abbrev pub bodies_of : List ℕ → List (List ℕ)
bodies_of bytes = (cut_within bytes bytes).0

abbrev pub rest_of : List ℕ → List ℕ
rest_of bytes = (cut_within bytes bytes).1

-- Behind the bytes that were read those that are taken give the frame that is held, if it is whole, and leave what is
-- pending.
pub record GoesOn (read taken held : List ℕ) : Type 0 where
  pub bodies : bodies_of (read ++ taken) ≡ bodies_of read ++ found held
  pub rest : pending held ≡ rest_of (read ++ taken)
