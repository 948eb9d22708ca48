-- What was done to a disk and a sink in memory, and what a stop may have left at each moment.
use Rattle.std.specs.Prelude.{◌≡◌, ◌⊎◌, ℕ, zero, suc, ◌≤◌, List, [], ◌∷◌, ◌++◌, length, take, replicate, refl, Some, unwrap_or}
use Rattle.std.proofs.Common.{inr, sym, ◌∙◌, ap, subst}
use Rattle.memory_host.specs.declared.effect.Effect.{Effect}
use Rattle.memory_host.specs.declared.effect.Effect.TheVariants.{Wrote, Tore, Synced, Sent}
use Rattle.memory_host.specs.declared.effect.Pick.{Pick}
use Rattle.memory_host.specs.declared.effect.Pick.TheVariants.{Old, New, Bytes}
use Rattle.host_core.specs.Outside.{Outside, Ask, Agrees, MayLeave, written, Torn}

-- what a read gives after an effect
abbrev pub disk_after : List ℕ → Effect → List ℕ
disk_after disk (Wrote at piece) = written at piece.items disk
disk_after disk (Tore at piece) = disk
disk_after disk Synced = disk
disk_after disk (Sent piece) = disk

-- the bytes sent after an effect
abbrev pub sent_after : List ℕ → Effect → List ℕ
sent_after sent (Wrote at piece) = sent
sent_after sent (Tore at piece) = sent
sent_after sent Synced = sent
sent_after sent (Sent piece) = sent ++ piece.items

-- a torn write of n bytes leaves that image
pub record Tears (may : List ℕ → Type 0) (at n : ℕ) (image : List ℕ) : Type 0 where
  pub before : List ℕ
  pub was : may before
  pub torn : Torn at n before image

-- What a stop may leave after an effect, by what it might have left before, and what a read gave then.
-- A write may be torn, or done as a whole; one that failed may be torn, or not done at all.
abbrev pub may_after : (List ℕ → Type 0) → List ℕ → Effect → List ℕ → Type 0
may_after may disk (Wrote at piece) image = Tears may at (length piece.items) image ⊎ (image ≡ written at piece.items disk)
may_after may disk (Tore at piece) image = Tears may at (length piece.items) image ⊎ may image
may_after may disk Synced image = image ≡ disk
may_after may disk (Sent piece) image = may image

-- what a stop within a call may leave, and what was sent by then
abbrev pub During : (List ℕ → Type 0) → List ℕ → List ℕ → Effect → List ℕ → List ℕ → Type 0
During may disk sent (Wrote at piece) image bytes = may_after may disk (Wrote at piece) image × (bytes ≡ sent)
During may disk sent (Tore at piece) image bytes = may_after may disk (Tore at piece) image × (bytes ≡ sent)
During may disk sent Synced image bytes = may image × (bytes ≡ sent)
During may disk sent (Sent piece) image bytes = may image × ((n : ℕ) × (n ≤ length piece.items) × (bytes ≡ sent ++ take n piece.items))

-- the same over all effects
abbrev pub disk_of : List ℕ → List Effect → List ℕ
disk_of disk [] = disk
disk_of disk (effect ∷ effects) = disk_of (disk_after disk effect) effects

abbrev pub sent_of : List ℕ → List Effect → List ℕ
sent_of sent [] = sent
sent_of sent (effect ∷ effects) = sent_of (sent_after sent effect) effects

abbrev pub may_of : (List ℕ → Type 0) → List ℕ → List Effect → List ℕ → Type 0
may_of may disk [] image = may image
may_of may disk (effect ∷ effects) image = may_of (may_after may disk effect) (disk_after disk effect) effects image

-- two moments for each call, one within it and one after it
abbrev pub moment_of : List Effect → ℕ
moment_of [] = zero
moment_of (effect ∷ effects) = suc (suc (moment_of effects))

-- what a stop at moment k may leave, and what was sent by then
abbrev pub Leaves : (List ℕ → Type 0) → List ℕ → List ℕ → List Effect → ℕ → List ℕ → List ℕ → Type 0
Leaves may disk sent effects zero image bytes = may image × (bytes ≡ sent)
Leaves may disk sent [] (suc k) image bytes = ⊥
Leaves may disk sent (effect ∷ effects) (suc zero) image bytes = During may disk sent effect image bytes
Leaves may disk sent (effect ∷ effects) (suc (suc k)) image bytes = Leaves (may_after may disk effect) (disk_after disk effect) (sent_after sent effect) effects k image bytes

-- a host in memory, by its input, what was sent, what a read gives, the disk at first, the effects since, the reads of
-- the input, and its faults
abbrev pub remembered : List ℕ → List ℕ → List ℕ → List ℕ → List Effect → List Ask → ℕ → ℕ → ℕ → Outside
remembered input sent disk start effects asks read_faults send_faults disk_faults = record {
  input = Some input;
  sent = Some sent;
  disk = Some disk;
  asks = Some asks;
  moment = moment_of effects;
  leaves = Leaves (λ image. image ≡ start) start [] effects;
  read_faults = read_faults;
  send_faults = send_faults;
  disk_faults = disk_faults;
}

-- an image with the picked bytes in the range of a piece
abbrev pub filled : Pick → ℕ → List ℕ → List ℕ → List ℕ
filled Old at piece image = image
filled New at piece image = written at piece image
filled (Bytes byte) at piece image = written at (replicate (length piece) byte) image

-- an image after an effect, where the picked bytes stand in each range that was written; a sync keeps what a read gave
abbrev pub image_after : Pick → List ℕ → List ℕ → Effect → List ℕ
image_after pick disk image (Wrote at piece) = filled pick at piece.items image
image_after pick disk image (Tore at piece) = filled pick at piece.items image
image_after pick disk image Synced = disk
image_after pick disk image (Sent piece) = image

-- the same over all effects
abbrev pub image_of : Pick → List ℕ → List ℕ → List Effect → List ℕ
image_of pick disk image [] = image
image_of pick disk image (effect ∷ effects) = image_of pick (disk_after disk effect) (image_after pick disk image effect) effects

-- Lemmas for the laws of a host in memory, by cases.

pub some_same : (x y : List ℕ) → Some x ≡ Some y → x ≡ y
some_same x y is = ap (λ known. unwrap_or known []) is

-- at the last moment
pub leaves_now : (may : List ℕ → Type 0) (disk sent : List ℕ) (effects : List Effect) (image bytes : List ℕ)
    → Leaves may disk sent effects (moment_of effects) image bytes → may_of may disk effects image × (bytes ≡ sent_of sent effects)
leaves_now may disk sent [] image bytes left = left
leaves_now may disk sent (effect ∷ effects) image bytes left = leaves_now (may_after may disk effect) (disk_after disk effect) (sent_after sent effect) effects image bytes left

pub now_leaves : (may : List ℕ → Type 0) (disk sent : List ℕ) (effects : List Effect) (image : List ℕ)
    → may_of may disk effects image → Leaves may disk sent effects (moment_of effects) image (sent_of sent effects)
now_leaves may disk sent [] image left = (left, refl)
now_leaves may disk sent (effect ∷ effects) image left = now_leaves (may_after may disk effect) (disk_after disk effect) (sent_after sent effect) effects image left

-- what a read gives is among the images
read_after : (may : List ℕ → Type 0) (disk : List ℕ) (effect : Effect) → may disk → may_after may disk effect (disk_after disk effect)
read_after may disk (Wrote at piece) here = inr refl
read_after may disk (Tore at piece) here = inr here
read_after may disk Synced here = refl
read_after may disk (Sent piece) here = here

pub read_of : (may : List ℕ → Type 0) (disk : List ℕ) (effects : List Effect) → may disk → may_of may disk effects (disk_of disk effects)
read_of may disk [] here = here
read_of may disk (effect ∷ effects) here = read_of (may_after may disk effect) (disk_after disk effect) effects (read_after may disk effect here)

pub remembered_sent : (sent start : List ℕ) (effects : List Effect) → sent ≡ sent_of [] effects
    → (image bytes : List ℕ) → Leaves (λ image. image ≡ start) start [] effects (moment_of effects) image bytes → Agrees (Some sent) bytes
remembered_sent sent start effects same image bytes left content is =
    (leaves_now (λ image. image ≡ start) start [] effects image bytes left).1 ∙ sym same ∙ some_same sent content is

pub remembered_read : (input sent disk start : List ℕ) (effects : List Effect) (asks : List Ask) (a b c : ℕ) → disk ≡ disk_of start effects
    → (content : List ℕ) → Some disk ≡ Some content → MayLeave (remembered input sent disk start effects asks a b c) content
remembered_read input sent disk start effects asks a b c same content is = record {
  bytes = sent_of [] effects;
  left = now_leaves (λ image. image ≡ start) start [] effects content
      (subst (may_of (λ image. image ≡ start) start effects) (sym same ∙ some_same disk content is) (read_of (λ image. image ≡ start) start effects refl));
}

pub remembered_now : (input sent disk start : List ℕ) (effects : List Effect) (asks : List Ask) (a b c : ℕ) → disk ≡ disk_of start effects
    → (image : List ℕ) × MayLeave (remembered input sent disk start effects asks a b c) image
remembered_now input sent disk start effects asks a b c same = (disk, remembered_read input sent disk start effects asks a b c same disk refl)
