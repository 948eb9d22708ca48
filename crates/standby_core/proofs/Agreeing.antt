-- A standby keeps the list whose Parts it takes.
use Rattle.std.proofs.Common.{◌≡◌, ◌≢◌, ℕ, ◌+◌, ◌<◌, ◌≤◌, ◌^◌, Bool, true, false, List, [], ◌∷◌, ◌++◌, length, Some, None, refl, sym, ap, subst, ◌∙◌, length-append, arith}
use Rattle.std.specs.Prelude.{All, is_none, ◌&&◌, ◌==◌, nat_le, if◌then◌else◌}
use Rattle.std.proofs.lemmas.Bool.Decides.{nat_tests}
use Rattle.std.proofs.lemmas.List.Elements.{All-head, All-tail}
use Rattle.wire_in.specs.declared.record.Record.{Record}
use Rattle.wire_in.specs.Cutting.{bodies_of, rest_of}
use Rattle.wire_in.specs.Laws.{IsSound}
use Rattle.wire_in.proofs.Cuts.{bodies_of-append, rest_of-append, cut_framed}
use Rattle.wire_in.proofs.RoundTrip.{body_again}
use Rattle.rulebook.specs.Admission.{IsLawful, verdict}
use Rattle.standby_core.specs.Parts.{part_body, part_bytes, part_of}
use Rattle.standby_core.specs.Kept.{kept, with_part}
use Rattle.standby_core.specs.Shipped.{part_at, parts_from}
use Rattle.standby_core.specs.Agreement.{PartsAreKept}
use Rattle.standby_core.proofs.Spelling.{part_again}

-- Frames

-- the body of a Part, where it is asked for
abbrev body_at : ℕ → ℕ → Record → List (List ℕ)
body_at from number x = if nat_le from number then part_body number x ∷ [] else []

cut_at : (from number : ℕ) (x : Record) → (bodies_of (part_at from number x) ≡ body_at from number x) × (rest_of (part_at from number x) ≡ [])
cut_at from number x = by (nat_le from number) where
  by : (b : Bool) → (bodies_of (if b then part_bytes number x else []) ≡ (if b then part_body number x ∷ [] else [])) × (rest_of (if b then part_bytes number x else []) ≡ [])
  by true = cut_framed (part_body number x)
  by false = (refl, refl)

ends_whole : (from : ℕ) (records : List Record) → rest_of (parts_from from records) ≡ []
ends_whole from [] = refl
ends_whole from (x ∷ earlier) =
    let p = part_at from (0 + length (x ∷ earlier)) x in
    rest_of-append (parts_from from earlier) p ∙ ap (λ (t : List ℕ). rest_of (t ++ p)) (ends_whole from earlier) ∙ (cut_at from (0 + length (x ∷ earlier)) x).1

bodies_more : (from : ℕ) (x : Record) (earlier : List Record) → bodies_of (parts_from from (x ∷ earlier)) ≡ bodies_of (parts_from from earlier) ++ body_at from (0 + length (x ∷ earlier)) x
bodies_more from x earlier =
    let p = part_at from (0 + length (x ∷ earlier)) x in
    bodies_of-append (parts_from from earlier) p
    ∙ ap (λ (t : List ℕ). bodies_of (parts_from from earlier) ++ bodies_of (t ++ p)) (ends_whole from earlier)
    ∙ ap (λ (b : List (List ℕ)). bodies_of (parts_from from earlier) ++ b) (cut_at from (0 + length (x ∷ earlier)) x).0

-- What is kept

pub kept-append : (limit : ℕ) (accepted : List Record) (a b : List (List ℕ)) → kept limit accepted (a ++ b) ≡ kept limit (kept limit accepted a) b
kept-append limit accepted [] b = refl
kept-append limit accepted (body ∷ a) b = kept-append limit (with_part limit accepted (part_of body)) a b

kept_more : (limit from : ℕ) (accepted : List Record) (x : Record) (earlier : List Record)
    → kept limit accepted (bodies_of (parts_from from (x ∷ earlier))) ≡ kept limit (kept limit accepted (bodies_of (parts_from from earlier))) (body_at from (0 + length (x ∷ earlier)) x)
kept_more limit from accepted x earlier = ap (kept limit accepted) (bodies_more from x earlier) ∙ kept-append limit accepted (bodies_of (parts_from from earlier)) (body_at from (0 + length (x ∷ earlier)) x)

-- the body of a sound record's Part is read as that Part
read_part : (number : ℕ) (x : Record) → number ≢ 0 → number < 2 ^ 64 → IsSound x → part_of (part_body number x) ≡ Some (number, x)
read_part number x some below sound = part_again number x some below (body_again x sound.types sound.ranges)

not_next : (n count : ℕ) → n ≤ count → (n == count + 1) ≡ false
not_next n count le = grind (arith, nat_tests)

is_so : (n m : ℕ) → n ≡ m → (n == m) ≡ true
is_so n m is = grind (arith, nat_tests)

-- a Part that was kept before is passed over
passed_over : (limit from number : ℕ) (accepted : List Record) (x : Record) → number ≢ 0 → number < 2 ^ 64 → IsSound x → number ≤ length accepted → kept limit accepted (body_at from number x) ≡ accepted
passed_over limit from number accepted x some below sound few = by (nat_le from number) where
  by : (b : Bool) → kept limit accepted (if b then part_body number x ∷ [] else []) ≡ accepted
  by false = refl
  by true =
      ap (with_part limit accepted) (read_part number x some below sound)
      ∙ ap (λ (b : Bool). if b && is_none (verdict limit accepted x) then x ∷ accepted else accepted) (not_next number (length accepted) few)

-- and the next one is kept
taken : (limit from number : ℕ) (accepted : List Record) (x : Record) → number < 2 ^ 64 → IsSound x → number ≡ length accepted + 1 → from ≤ number → verdict limit accepted x ≡ None
    → kept limit accepted (body_at from number x) ≡ x ∷ accepted
taken limit from number accepted x below sound next asked passed =
    ap (λ (b : Bool). kept limit accepted (if b then part_body number x ∷ [] else [])) (over from number asked)
    ∙ ap (with_part limit accepted) (read_part number x (λ zero. omega (arith, next, zero)) below sound)
    ∙ (λ i. if is_so number (length accepted + 1) next i && is_none (passed i) then x ∷ accepted else accepted)
  where
    over : (from number : ℕ) → from ≤ number → nat_le from number ≡ true
    over from number le = grind (arith, nat_tests)

-- the Parts of records that were kept before
kept_before : (limit from : ℕ) (records accepted : List Record) → All IsSound records → length accepted < 2 ^ 64 → length records ≤ length accepted → kept limit accepted (bodies_of (parts_from from records)) ≡ accepted
kept_before limit from [] accepted sound below few = refl
kept_before limit from (x ∷ earlier) accepted sound below few =
    let number = 0 + length (x ∷ earlier) in
    kept_more limit from accepted x earlier
    ∙ ap (λ (l : List Record). kept limit l (body_at from number x)) (kept_before limit from earlier accepted (All-tail IsSound x earlier sound) below (omega arith))
    ∙ passed_over limit from number accepted x (λ zero. omega (arith, zero)) (omega (arith, few, below)) (All-head IsSound x earlier sound) (omega (arith, few))

lawful_earlier : (limit : ℕ) (x : Record) (earlier : List Record) → IsLawful limit (x ∷ earlier) → IsLawful limit earlier
lawful_earlier limit x earlier lawful = lawful.1

-- and those behind them
kept_behind : (limit from : ℕ) (later accepted : List Record) → IsLawful limit (later ++ accepted) → All IsSound (later ++ accepted) → length (later ++ accepted) < 2 ^ 64 → from ≤ length accepted + 1
    → kept limit accepted (bodies_of (parts_from from (later ++ accepted))) ≡ later ++ accepted
kept_behind limit from [] accepted lawful sound below asked = kept_before limit from accepted accepted sound below (omega arith)
kept_behind limit from (x ∷ later) accepted lawful sound below asked =
    let earlier = later ++ accepted in
    let number = 0 + length (x ∷ earlier) in
    kept_more limit from accepted x earlier
    ∙ ap (λ (l : List Record). kept limit l (body_at from number x)) (kept_behind limit from later accepted lawful.1 (All-tail IsSound x earlier sound) (omega (arith, below)) asked)
    ∙ taken limit from number earlier x (omega (arith, below)) (All-head IsSound x earlier sound) (omega arith) (omega (arith, asked, length-append later accepted)) lawful.0

pub parts_are_kept : PartsAreKept
parts_are_kept limit from records accepted lawful sound below part asked =
    subst (λ (l : List Record). kept limit accepted (bodies_of (parts_from from l)) ≡ l) part.whole
    (kept_behind limit from part.more accepted (subst (IsLawful limit) (sym part.whole) lawful) (subst (All IsSound) (sym part.whole) sound) (omega (arith, below, ap length part.whole)) asked)
