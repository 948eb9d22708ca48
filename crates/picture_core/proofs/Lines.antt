-- A text that is read line by line.
use Rattle.std.proofs.Common.{◌≡◌, ℕ, ◌+◌, ◌<◌, ◌++◌, ◌∷◌, [], List, length, sym, ap, ◌∙◌, subst, length-append, Option, Some, None, refl, IfSome}
use Rattle.std.specs.List.{cons_option, fold}
use Rattle.std.proofs.lemmas.List.Elements.{filter_map-append}
use Rattle.std.proofs.lemmas.List.Sums.{fold-append}
use Rattle.std.specs.Io.BufRead.{first_piece, strip_last, take_through, drop_through, DropsThrough}
use Rattle.wire_out.specs.declared.message.Frame.{Frame}
use Rattle.wire_out.specs.declared.message.Stamped.{Stamped}
use Rattle.picture_core.specs.Days.{Days, no_days, days_with, days_after, days_of}
use Rattle.text_core.specs.Lines.{PrintsFrame}
use Rattle.picture_core.specs.Shown.{message_of, messages_of}
use Rattle.picture_core.specs.Texts.{Prints}
use Rattle.picture_core.specs.Reads.{HasRead}

-- one frame more is printed
pub prints_more : (text : List ℕ) (frames : List Frame) (rest : List ℕ) (frame : Frame) → Prints text frames rest → 0 < length rest
    → PrintsFrame (first_piece 10 rest) frame → Prints text (frames ++ frame ∷ []) (drop_through 10 rest)
prints_more text [] rest frame printed there first =
    (subst (λ (t : List ℕ). 0 < length t) printed there, subst (λ (t : List ℕ). PrintsFrame (first_piece 10 t) frame) printed first, ap (drop_through 10) printed)
prints_more text (f ∷ frames) rest frame printed there first =
    (printed.0, printed.1, prints_more (drop_through 10 text) frames rest frame printed.2 there first)

known_of : (P : List ℕ → Type 0) (left : Option (List ℕ)) (rest : List ℕ) → left ≡ Some rest → IfSome left P → P rest
known_of P left rest known given = subst (λ (o : Option (List ℕ)). IfSome o P) known given

after_option : (wanted : Option ℕ) (days : Days) (x : Option Stamped) → days_after wanted days x ≡ fold (days_with wanted) days (cons_option x [])
after_option wanted days None = refl
after_option wanted days (Some x) = refl

-- the days with a frame more
days_more : (wanted : Option ℕ) (frames : List Frame) (frame : Frame)
    → days_of wanted (messages_of (frames ++ frame ∷ [])) ≡ days_after wanted (days_of wanted (messages_of frames)) (message_of frame)
days_more wanted frames frame =
    ap (fold (days_with wanted) no_days) (filter_map-append message_of frames (frame ∷ []))
    ∙ fold-append (days_with wanted) no_days (messages_of frames) (cons_option (message_of frame) [])
    ∙ sym (after_option wanted (days_of wanted (messages_of frames)) (message_of frame))

-- a line was read, and printed a frame
pub has_read_more : (wanted : Option ℕ) (text : List ℕ) (left later : Option (List ℕ)) (lines : ℕ) (line : List ℕ) (days more : Days) (frame : Frame)
    → HasRead wanted text left lines days → IfSome left (λ t. 0 < length t) → IfSome left (λ t. line ≡ take_through 10 t)
    → DropsThrough left later 10 → PrintsFrame (strip_last 10 line) frame → more ≡ days_after wanted days (message_of frame)
    → HasRead wanted text later (lines + 1) more
has_read_more wanted text left later lines line days more frame read there given dropped prints kept = record {
  frames = read.frames ++ frame ∷ [];
  rest = drop_through 10 read.rest;
  known = known_of _ left read.rest read.known dropped;
  printed = prints_more text read.frames read.rest frame read.printed (known_of _ left read.rest read.known there)
      (subst (λ (l : List ℕ). PrintsFrame (strip_last 10 l) frame) (known_of _ left read.rest read.known given) prints);
  counted = length-append read.frames (frame ∷ []) ∙ ap (λ (n : ℕ). n + 1) read.counted;
  exact = kept ∙ ap (λ (d : Days). days_after wanted d (message_of frame)) read.exact ∙ sym (days_more wanted read.frames frame);
}
