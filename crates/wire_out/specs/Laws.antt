-- What holds of all published frames.
use Rattle.std.specs.Prelude.{◌≡◌, ℕ, ◌≤◌, List, ◌++◌, length}
use Rattle.wire_out.specs.Spelling.{HasTypes, InRange, spelling}
use Rattle.wire_out.specs.declared.message.Frame.{Frame}

-- a frame that can be published
pub record IsSound (f : Frame) : Type 0 where
  pub types : HasTypes f
  pub ranges : InRange f

pub record IsBetween (least most n : ℕ) : Type 0 where
  pub from : least ≤ n
  pub to : n ≤ most

-- a frame has from 10 to 45 bytes
abbrev pub FramesFit : Type 0
FramesFit = (f : Frame) → InRange f → IsBetween 10 45 (length (spelling f))

-- no frame is the beginning of another
abbrev pub FramesDiffer : Type 0
FramesDiffer = (f g : Frame) (more rest : List ℕ)
    → IsSound f → IsSound g → spelling f ++ more ≡ spelling g ++ rest → (f ≡ g) × (more ≡ rest)
