-- A text that is read line by line.
use Rattle.std.proofs.Common.{◌≡◌, ◌⊎◌, inl, inr, ℕ, ◌+◌, ◌<◌, ◌++◌, ◌∷◌, [], List, length, sym, ap, ◌∙◌, subst, length-append, Option, Some, None, refl, IfSome}
use Rattle.std.specs.Prelude.{Result, Ok, Err, IfErr}
use Rattle.std.specs.Result.{IsErrAnd}
use Rattle.std.specs.Io.BufRead.{first_piece, strip_last, take_through, drop_through, DropsThrough}
use Rattle.host_core.specs.declared.status.Status.{Status}
use Rattle.host_core.specs.declared.status.Status.TheVariants.{NoMemory, BadText}
use Rattle.wire_core.specs.OptionSteps.{◌>>=◌}
use Rattle.cross_chart.specs.declared.line.CrossLine.{CrossLine}
use Rattle.cross_chart.specs.declared.sketch.Sketch.{Sketch}
use Rattle.cross_chart.specs.Lines.{Says}
use Rattle.cross_chart.specs.Sketches.{begun, with_line, with_lines}
use Rattle.cross_chart.specs.Reads.{Tells, HasRead, IsBadAt, Stops}

-- one line more is told
tells_more : (text : List ℕ) (lines : List CrossLine) (rest : List ℕ) (x : CrossLine) → Tells text lines rest → 0 < length rest
    → Says (first_piece 10 rest) x → Tells text (lines ++ x ∷ []) (drop_through 10 rest)
tells_more text [] rest x told there first =
    (subst (λ (t : List ℕ). 0 < length t) told there, subst (λ (t : List ℕ). Says (first_piece 10 t) x) told first, ap (drop_through 10) told)
tells_more text (y ∷ lines) rest x told there first =
    (told.0, told.1, tells_more (drop_through 10 text) lines rest x told.2 there first)

-- a line more tells its part
lines_more : (k : Sketch) (lines : List CrossLine) (x : CrossLine) → with_lines k (lines ++ x ∷ []) ≡ (with_lines k lines >>= λ more. with_line more x)
lines_more k [] x = last (with_line k x) where
  last : (o : Option Sketch) → (o >>= λ more. with_lines more []) ≡ o
  last None = refl
  last (Some more) = refl
lines_more k (y ∷ lines) x =
    behind (λ more. with_lines more (lines ++ x ∷ [])) (λ more. with_lines more lines) (λ more. with_line more x) (with_line k y) (λ more. lines_more more lines x) where
      behind : (f g h : Sketch → Option Sketch) (o : Option Sketch) → ((more : Sketch) → f more ≡ (g more >>= h)) → (o >>= f) ≡ ((o >>= g) >>= h)
      behind f g h None same = refl
      behind f g h (Some more) same = same more

known_of : (P : List ℕ → Type 0) (left : Option (List ℕ)) (rest : List ℕ) → left ≡ Some rest → IfSome left P → P rest
known_of P left rest known given = subst (λ (o : Option (List ℕ)). IfSome o P) known given

-- a line was read, and may stand there
pub has_read_more : (text : List ℕ) (left later : Option (List ℕ)) (count : ℕ) (line : List ℕ) (sketch more : Sketch) (x : CrossLine)
    → HasRead text left count sketch → IfSome left (λ t. 0 < length t) → IfSome left (λ t. line ≡ take_through 10 t)
    → DropsThrough left later 10 → Says (strip_last 10 line) x → with_line sketch x ≡ Some more → HasRead text later (count + 1) more
has_read_more text left later count line sketch more x read there given dropped says fits = record {
  lines = read.lines ++ x ∷ [];
  rest = drop_through 10 read.rest;
  known = known_of _ left read.rest read.known dropped;
  told = tells_more text read.lines read.rest x read.told (known_of _ left read.rest read.known there)
      (subst (λ (l : List ℕ). Says (strip_last 10 l) x) (known_of _ left read.rest read.known given) says);
  counted = length-append read.lines (x ∷ []) ∙ ap (λ (n : ℕ). n + 1) read.counted;
  exact = lines_more begun read.lines x ∙ ap (λ (o : Option Sketch). o >>= λ k. with_line k x) read.exact ∙ fits;
}

-- a line was read, and says nothing that may stand there
breaks_there : (text : List ℕ) (left : Option (List ℕ)) (count : ℕ) (line : List ℕ) (sketch : Sketch)
    → HasRead text left count sketch → IfSome left (λ t. 0 < length t) → IfSome left (λ t. line ≡ take_through 10 t)
    → ((x : CrossLine) → Says (strip_last 10 line) x → with_line sketch x ≡ None) → IsBadAt (count + 1) text
breaks_there text left count line sketch read there given none = record {
  lines = read.lines;
  rest = read.rest;
  sketch = sketch;
  told = read.told;
  exact = read.exact;
  counted = ap (λ (n : ℕ). n + 1) read.counted;
  breaks = inr (
    known_of _ left read.rest read.known there,
    λ x says. none x (subst (λ (l : List ℕ). Says (strip_last 10 l) x) (sym (known_of _ left read.rest read.known given)) says),
  );
}

-- why a line isn't taken
abbrev pub Refuses : ℕ → List ℕ → Sketch → Status → Type 0
Refuses number line sketch s =
    (s ≡ NoMemory) ⊎ ((s ≡ BadText number) × ((x : CrossLine) → Says (strip_last 10 line) x → with_line sketch x ≡ None))

-- reading stops there
pub stops_there : (text : List ℕ) (left : Option (List ℕ)) (count : ℕ) (line same : List ℕ) (sketch : Sketch) (s : Status)
    → HasRead text left count sketch → IfSome left (λ t. 0 < length t) → IfSome left (λ t. line ≡ take_through 10 t)
    → same ≡ line → Refuses (count + 1) same sketch s → Stops s text
stops_there text left count line same sketch s read there given is (inl short) = subst (λ (e : Status). Stops e text) (sym short) tt
stops_there text left count line same sketch s read there given is (inr bad) =
    subst (λ (e : Status). Stops e text) (sym bad.0) (breaks_there text left count line sketch read there given
    (subst (λ (l : List ℕ). (x : CrossLine) → Says (strip_last 10 l) x → with_line sketch x ≡ None) is bad.1))

-- an error that is handed on
pub answered_on : {T : Type 0} (P : Status → Type 0) (result : Result T Status) {was : Status} → IsErrAnd result (λ e. e ≡ was) → P was → IfErr result P
answered_on P (Ok x) is p = absurd is
answered_on P (Err e) is p = subst P (sym is) p
