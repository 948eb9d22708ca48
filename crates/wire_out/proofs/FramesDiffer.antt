-- How long frames are, and that they differ.
use Rattle.std.proofs.Common.{◌≡◌, ℕ, List, ◌++◌, length, take, drop, refl, sym, ap, ◌∙◌, arith}
use Rattle.std.proofs.lemmas.List.{take_at, drop_at}
use Rattle.wire_core.specs.Frames.{framed}
use Rattle.wire_out.specs.Laws.{FramesFit, FramesDiffer, IsBetween}
use Rattle.wire_out.specs.Reading.{frame_of}
use Rattle.wire_out.specs.Spelling.{IsSayable, body_of, numbered_body, spelling}
use Rattle.wire_out.specs.declared.message.Message.{Message}
use Rattle.wire_out.specs.declared.message.Message.TheVariants.{Listed}
use Rattle.wire_out.specs.declared.message.Frame.TheVariants.{Numbered}
use Rattle.wire_out.proofs.RoundTrip.{body_again}
use Rattle.wire_out.proofs.Values.{some_is}

message_fits : (n t : ℕ) (m : Message) → IsSayable m → IsBetween 10 45 (length (framed (numbered_body n t m)))
message_fits n t (Listed s name) r = record { from = omega (arith, r.0); to = omega (arith, r.0) }
message_fits n t _ r = record { from = omega arith; to = omega arith }

pub frames_fit : FramesFit
unfolding spelling
frames_fit (Numbered n x) r = message_fits n x.moment x.message r.1
frames_fit _ r = record { from = omega arith; to = omega arith }

framed_once : (a b more rest : List ℕ) → framed a ++ more ≡ framed b ++ rest → (a ≡ b) × (more ≡ rest)
framed_once a b more rest e =
    let len : length a ≡ length b = cc in
    let text : a ++ more ≡ b ++ rest = cc in (
      sym (take_at a more (length b) len) ∙ ap (λ (t : List ℕ). take (length b) t) text ∙ take_at b rest (length b) refl,
      sym (drop_at a more (length b) len) ∙ ap (λ (t : List ℕ). drop (length b) t) text ∙ drop_at b rest (length b) refl,
    )

pub frames_differ : FramesDiffer
unfolding spelling
frames_differ f g more rest of_f of_g e =
    let parts = framed_once (body_of f) (body_of g) more rest e in
    let same = sym (body_again f of_f.types of_f.ranges) ∙ ap frame_of parts.0 ∙ body_again g of_g.types of_g.ranges in
    (some_is f g same, parts.1)
