-- What is told of a text, part by part.
use Rattle.std.proofs.Common.{◌≡◌, ◌⊎◌, inl, inr, ℕ, suc, ◌+◌, ◌≤◌, ◌<◌, ◌==◌, Bool, true, false, List, [], ◌∷◌, ◌++◌, length, take, drop, map, refl, sym, ap, subst, ◌∙◌, length-append, length-drop, append_assoc, arith, true≢false}
use Rattle.std.specs.Prelude.{Option, min, not}
use Rattle.std.specs.List.{concat, list_all}
use Rattle.std.specs.Io.KnownBytes.{Appends}
use Rattle.std.proofs.KnownBytes.{Appends-nil, Appends-trans}
use Rattle.std.proofs.lemmas.List.{append-nil, map-append, take_all, take-append-drop, take-append-le}
use Rattle.std.proofs.lemmas.List.Folds.{concat-append, list_all-append}
use Rattle.std.proofs.lemmas.Bool.Decides.{leb_tells, eqb_tells}
use Rattle.std.proofs.Math.Seq.{take-add, take-append-add}
use Rattle.host_core.specs.Streams.{AppendsPart}
use Rattle.text_core.specs.Streams.{lines_from, last_from, units_of, rest_of}
use Rattle.text_core.specs.InternalStreams.{IsOneLine}
use Rattle.text_core.proofs.Units.{lines-append, last-append, part_units, part_rest, line_units, line_rest, lt_tells}
use Rattle.detail_core.specs.Details.{AreDetails, AreLines, detail_of, details_of, told_line}

-- a part of the first of two texts, and a part of the second behind the first
pub part_first : (old new : Option (List ℕ)) (first second : List ℕ) → AppendsPart old new first → AppendsPart old new (first ++ second)
part_first old new first second part = record {
  count = part.count;
  within = omega (arith, part.within, length-append first second);
  part = subst (Appends old new) (sym (take-append-le part.count first second part.within)) part.part;
}

pub part_second : (old mid new : Option (List ℕ)) (first second : List ℕ) → Appends old mid first → AppendsPart mid new second → AppendsPart old new (first ++ second)
part_second old mid new first second one part = record {
  count = length first + part.count;
  within = omega (arith, part.within, length-append first second);
  part = subst (Appends old new) (sym (take-append-add first second part.count)) (Appends-trans old mid new first (take part.count second) one part.part);
}

-- what is told of some lines
abbrev told_of : List (List ℕ) → List ℕ
told_of lines = concat (map detail_of lines)

told_append : (first second : List (List ℕ)) → told_of (first ++ second) ≡ told_of first ++ told_of second
told_append first second = ap concat (map-append detail_of first second) ∙ concat-append (map detail_of first) (map detail_of second)

whole_told : (xs : List ℕ) → last_from [] xs ≡ [] → told_of (lines_from [] xs) ≡ details_of xs
unfolding details_of
whole_told xs closed = sym (append-nil (told_of (lines_from [] xs))) ∙ ap (λ (l : List ℕ). told_of (lines_from [] xs) ++ detail_of l) (sym closed)

-- behind whole lines a text goes on with what is told of the rest
pub details-append : (xs ys : List ℕ) → last_from [] xs ≡ [] → details_of (xs ++ ys) ≡ details_of xs ++ details_of ys
unfolding details_of
details-append xs ys closed =
    (λ i. told_of (lines-append [] xs ys i) ++ detail_of (last-append [] xs ys i))
    ∙ (λ i. told_of (lines_from [] xs ++ lines_from (closed i) ys) ++ detail_of (last_from (closed i) ys))
    ∙ ap (λ (l : List ℕ). l ++ detail_of (last_from [] ys)) (told_append (lines_from [] xs) (lines_from [] ys))
    ∙ append_assoc (told_of (lines_from [] xs)) (told_of (lines_from [] ys)) (detail_of (last_from [] ys))
    ∙ ap (λ (l : List ℕ). l ++ details_of ys) (whole_told xs closed)

closed-append : (xs ys : List ℕ) → last_from [] xs ≡ [] → last_from [] ys ≡ [] → last_from [] (xs ++ ys) ≡ []
closed-append xs ys first second = last-append [] xs ys ∙ ap (λ (l : List ℕ). last_from l ys) first ∙ second

-- one line with its newline, and without it
line_told : (line : List ℕ) → IsOneLine line → details_of (line ++ 10 ∷ []) ≡ detail_of line
unfolding details_of units_of rest_of
line_told line h =
    (λ i. told_of (line_units [] line h i) ++ detail_of (line_rest [] line i))
    ∙ append-nil (detail_of line ++ []) ∙ append-nil (detail_of line)

last_told : (line : List ℕ) → IsOneLine line → details_of line ≡ detail_of line
unfolding details_of units_of rest_of
last_told line h = λ i. told_of (part_units [] line h i) ++ detail_of (part_rest [] line h i)

line_closed : (line : List ℕ) → last_from [] (line ++ 10 ∷ []) ≡ []
unfolding rest_of
line_closed line = line_rest [] line

-- the line that a piece begins with: so many bytes of it are the line, and so many are taken with its newline
module _ (piece : List ℕ) (len n : ℕ) (within : len ≤ length piece) (line : IsOneLine (take len piece)) (ended : len < length piece → take (len + 1) piece ≡ take len piece ++ 10 ∷ []) (taken : n ≡ min (len + 1) (length piece)) where
  longer : len < length piece → n ≡ len + 1
  longer more = omega (arith, taken, more)

  all : length piece ≤ len → n ≡ length piece
  all none = omega (arith, taken, none)

  taken_line : len < length piece → take n piece ≡ take len piece ++ 10 ∷ []
  taken_line more = ap (λ (k : ℕ). take k piece) (longer more) ∙ ended more

  taken_all : length piece ≤ len → take n piece ≡ take len piece
  taken_all none = ap (λ (k : ℕ). take k piece) (all none) ∙ take_all (length piece) piece (omega arith) ∙ sym (take_all len piece none)

  pub first_told : details_of (take n piece) ≡ detail_of (take len piece)
  first_told = elim (lt_tells len (length piece)) [
    | inl more ↦ ap details_of (taken_line more.1) ∙ line_told (take len piece) line
    | inr none ↦ ap details_of (taken_all none.1) ∙ last_told (take len piece) line
  ]

  pub first_whole : (n ≡ length piece) ⊎ (last_from [] (take n piece) ≡ [])
  first_whole = elim (lt_tells len (length piece)) [
    | inl more ↦ inr (ap (last_from []) (taken_line more.1) ∙ line_closed (take len piece))
    | inr none ↦ inl (all none.1)
  ]

-- a text of which so many bytes were told
pub record Told (text : List ℕ) (done : ℕ) (start now : Option (List ℕ)) (failures failures' : ℕ) : Type 0 where
  pub bound : done ≤ length text
  pub bytes : Appends start now (details_of (take done text))
  pub whole : (done ≡ length text) ⊎ (last_from [] (take done text) ≡ [])
  pub fine : failures' ≡ failures

pub told_begun : (text : List ℕ) (start : Option (List ℕ)) (failures : ℕ) → Told text 0 start start failures failures
unfolding details_of
told_begun text start failures = record { bound = omega arith; bytes = Appends-nil start; whole = inr refl; fine = refl }

-- nothing is told of no text
pub told_nothing : (text : List ℕ) (known : Option (List ℕ)) → length text ≡ 0 → Appends known known (details_of text)
unfolding details_of
told_nothing [] known none = Appends-nil known
told_nothing (b ∷ text) known none = absurd (omega (arith, none))

pub told_all : (text : List ℕ) (done : ℕ) → length text ≤ done → details_of (take done text) ≡ details_of text
told_all text done le = ap details_of (take_all done text le)

module _ {text : List ℕ} {done : ℕ} {start mid : Option (List ℕ)} {failures now : ℕ} (so_far : Told text done start mid failures now) (left : done < length text) where
  closed : last_from [] (take done text) ≡ []
  closed = elim so_far.whole [
    | inl end ↦ absurd (omega (arith, end, left))
    | inr is ↦ is
  ]

  module _ (new : Option (List ℕ)) where
    pub told_more : (n later : ℕ) → n ≤ length (drop done text) → Appends mid new (details_of (take n (drop done text)))
        → (n ≡ length (drop done text)) ⊎ (last_from [] (take n (drop done text)) ≡ []) → later ≡ now → Told text (done + n) start new failures later
    told_more n later few told whole same = record {
      bound = omega (arith, few, so_far.bound, length-drop done text);
      bytes = subst (Appends start new)
          (sym (ap details_of (take-add done n text) ∙ details-append (take done text) (take n (drop done text)) closed))
          (Appends-trans start mid new (details_of (take done text)) (details_of (take n (drop done text))) so_far.bytes told);
      whole = elim whole [
        | inl end ↦ inl (omega (arith, end, so_far.bound, length-drop done text))
        | inr is ↦ inr (ap (last_from []) (take-add done n text) ∙ closed-append (take done text) (take n (drop done text)) closed is)
      ];
      fine = same ∙ so_far.fine;
    }

    pub told_part : AppendsPart mid new (details_of (drop done text)) → AppendsPart start new (details_of text)
    told_part part = subst (AppendsPart start new)
        (sym (details-append (take done text) (drop done text) closed) ∙ ap details_of (take-append-drop done text))
        (part_second start mid new (details_of (take done text)) (details_of (drop done text)) so_far.bytes part)

-- what is told of the line that a piece begins with is where all that is told of the piece begins
pub first_part : (piece : List ℕ) (len : ℕ) → len ≤ length piece → IsOneLine (take len piece) → (len < length piece → take (len + 1) piece ≡ take len piece ++ 10 ∷ [])
    → (old new : Option (List ℕ)) → AppendsPart old new (detail_of (take len piece)) → AppendsPart old new (details_of piece)
first_part piece len within line ended old new part = elim (lt_tells len (length piece)) [
  | inl more ↦
      let closed = ap (last_from []) (ended more.1) ∙ line_closed (take len piece) in
      let told = ap details_of (ended more.1) ∙ line_told (take len piece) line in
      subst (AppendsPart old new)
      (sym (ap (λ (l : List ℕ). l ++ details_of (drop (len + 1) piece)) told)
      ∙ sym (details-append (take (len + 1) piece) (drop (len + 1) piece) closed)
      ∙ ap details_of (take-append-drop (len + 1) piece))
      (part_first old new (detail_of (take len piece)) (details_of (drop (len + 1) piece)) part)
  | inr none ↦ subst (AppendsPart old new) (sym (last_told (take len piece) line) ∙ ap details_of (take_all len piece none.1)) part
]

-- the lines of a text have no newline
not_newline : (b : ℕ) → b == 10 ≡ false → IsOneLine (b ∷ [])
not_newline b is = rw is refl

one-append : (xs ys : List ℕ) → IsOneLine xs → IsOneLine ys → IsOneLine (xs ++ ys)
one-append xs ys first second = list_all-append (λ b. not (b == 10)) xs ys ∙ rw (first, second) refl

lines_one : (begun bytes : List ℕ) → IsOneLine begun → AreLines (lines_from begun bytes)
lines_one begun [] h = tt
lines_one begun (b ∷ bytes) h = elim (eqb_tells b 10) [
  | inl w ↦ rw w.0 (h, lines_one [] bytes refl)
  | inr w ↦ rw w.0 (lines_one (begun ++ b ∷ []) bytes (one-append begun (b ∷ []) h (not_newline b w.0)))
]

last_one : (begun bytes : List ℕ) → IsOneLine begun → IsOneLine (last_from begun bytes)
last_one begun [] h = h
last_one begun (b ∷ bytes) h = elim (eqb_tells b 10) [
  | inl w ↦ rw w.0 (last_one [] bytes refl)
  | inr w ↦ rw w.0 (last_one (begun ++ b ∷ []) bytes (one-append begun (b ∷ []) h (not_newline b w.0)))
]

last_details : (line : List ℕ) → IsOneLine line → AreDetails (detail_of line)
last_details [] h = record { lines = []; each = tt; are = refl }
last_details (b ∷ line) h = record { lines = (b ∷ line) ∷ []; each = (h, tt); are = sym (append-nil (told_line (b ∷ line))) }

more_details : (line told : List ℕ) → IsOneLine line → AreDetails told → AreDetails (detail_of line ++ told)
more_details [] told h later = later
more_details (b ∷ line) told h later = record {
  lines = (b ∷ line) ∷ later.lines;
  each = (h, later.each);
  are = ap (λ (l : List ℕ). told_line (b ∷ line) ++ l) later.are;
}

lines_details : (lines : List (List ℕ)) (told : List ℕ) → AreLines lines → AreDetails told → AreDetails (told_of lines ++ told)
lines_details [] told each later = later
lines_details (line ∷ lines) told each later =
    subst AreDetails (sym (append_assoc (detail_of line) (told_of lines) told))
    (more_details line (told_of lines ++ told) each.0 (lines_details lines told each.1 later))

pub are_details : (text : List ℕ) → AreDetails (details_of text)
unfolding details_of
are_details text = lines_details (lines_from [] text) (detail_of (last_from [] text)) (lines_one [] text refl) (last_details (last_from [] text) (last_one [] text refl))
