-- An image that a stop may leave, effect by effect.
use Rattle.std.proofs.Common.{◌≡◌, inl, ℕ, ◌+◌, ◌<◌, List, [], ◌∷◌, ◌++◌, length, get_or, take, refl, sym, ◌∙◌, ap, subst}
use Rattle.std.specs.Prelude.{replicate}
use Rattle.std.proofs.lemmas.List.{take_more, length-replicate}
use Rattle.memory_host.specs.declared.effect.Effect.{Effect}
use Rattle.memory_host.specs.declared.effect.Effect.TheVariants.{Wrote, Tore, Synced, Sent}
use Rattle.memory_host.specs.declared.effect.Pick.{Pick}
use Rattle.memory_host.specs.declared.effect.Pick.TheVariants.{Old, New, Bytes}
use Rattle.host_core.specs.Outside.{written, Torn}
use Rattle.memory_host.specs.Effects.{disk_after, may_after, disk_of, may_of, filled, image_after, image_of}
use Rattle.memory_host.proofs.Pushed.{disk_of-push}
use Rattle.host_core.proofs.Torns.{torn_whole, torn_none}

-- the picked bytes in the range of a piece
torn_filled : (pick : Pick) (at : ℕ) (piece image : List ℕ) → Torn at (length piece) image (filled pick at piece image)
torn_filled Old at piece image = torn_none at (length piece) image
torn_filled New at piece image = torn_whole at piece image
torn_filled (Bytes byte) at piece image = subst (λ n. Torn at n image (written at (replicate (length piece) byte) image)) (length-replicate (length piece) byte) (torn_whole at (replicate (length piece) byte) image)

stepped : (pick : Pick) (may : List ℕ → Type 0) (effect : Effect) (disk image : List ℕ) → may image → may_after may disk effect (image_after pick disk image effect)
stepped pick may (Wrote at piece) disk image was = inl (record { before = image; was = was; torn = torn_filled pick at piece.items image })
stepped pick may (Tore at piece) disk image was = inl (record { before = image; was = was; torn = torn_filled pick at piece.items image })
stepped pick may Synced disk image was = refl
stepped pick may (Sent piece) disk image was = was

-- the picked image is one that a stop may leave
pub picked : (pick : Pick) (may : List ℕ → Type 0) (disk image : List ℕ) (effects : List Effect) → may image → may_of may disk effects (image_of pick disk image effects)
picked pick may disk image [] was = was
picked pick may disk image (effect ∷ effects) was = picked pick (may_after may disk effect) (disk_after disk effect) (image_after pick disk image effect) effects (stepped pick may effect disk image was)

image_of-push : (pick : Pick) (disk image : List ℕ) (effects : List Effect) (effect : Effect)
    → image_of pick disk image (effects ++ effect ∷ []) ≡ image_after pick (disk_of disk effects) (image_of pick disk image effects) effect
image_of-push pick disk image [] effect = refl
image_of-push pick disk image (first ∷ effects) effect = image_of-push pick (disk_after disk first) (image_after pick disk image first) effects effect

module _ (pick : Pick) (start : List ℕ) (effects : List Effect) (i : ℕ) (effect : Effect) (lt : i < length effects) (is : effect ≡ get_or effects i effect) where
  one_more : take i effects ++ effect ∷ [] ≡ take (i + 1) effects
  one_more = ap (λ x. take i effects ++ x ∷ []) is ∙ sym (take_more effects i effect lt)

  pub disk_more : (disk new : List ℕ) → disk ≡ disk_of start (take i effects) → new ≡ disk_after disk effect → new ≡ disk_of start (take (i + 1) effects)
  disk_more disk new so_far step = step ∙ ap (λ l. disk_after l effect) so_far ∙ sym (disk_of-push start (take i effects) effect) ∙ ap (disk_of start) one_more

  pub image_more : (disk image new : List ℕ) → disk ≡ disk_of start (take i effects) → image ≡ image_of pick start start (take i effects) → new ≡ image_after pick disk image effect
      → new ≡ image_of pick start start (take (i + 1) effects)
  image_more disk image new disk_so_far so_far step =
      step ∙ ap (λ l. image_after pick l image effect) disk_so_far ∙ ap (λ l. image_after pick (disk_of start (take i effects)) l effect) so_far
      ∙ sym (image_of-push pick start start (take i effects) effect) ∙ ap (image_of pick start start) one_more
