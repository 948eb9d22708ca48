-- The units of a stream, and what is sent for them.
use Rattle.std.proofs.Common.{◌≡◌, ◌⊎◌, inl, inr, ℕ, suc, ◌-◌, ◌≤◌, ◌<◌, cond, Bool, true, false, List, [], ◌∷◌, ◌++◌, length, take, refl, sym, ap, ◌∙◌, append_assoc, arith}
use Rattle.std.specs.Prelude.{Option, nat_lt, ◌||◌, min}
use Rattle.std.specs.List.{concat}
use Rattle.std.proofs.lemmas.List.{append-nil, take_all, take-append-le, length-take, take_min}
use Rattle.std.proofs.Math.Seq.{take-append-add}
use Rattle.std.proofs.lemmas.List.Folds.{concat-append}
pub use Rattle.std.proofs.lemmas.Bool.{not-true as not_true, not-false as not_false}
use Rattle.std.proofs.lemmas.Bool.Decides.{leb_tells, nat_tests}
use Rattle.wire_in.proofs.Cuts.{bodies_of-append}
use Rattle.text_core.specs.declared.kind.Kind.{Kind}
use Rattle.text_core.specs.declared.task.Task.{Task}
use Rattle.text_core.specs.declared.task.Task.TheVariants.{Print, Pack}
use Rattle.text_core.specs.InternalStreams.{IsOneLine}
use Rattle.text_core.specs.Streams.{lines_from, last_from, units_of, rest_of, before_bad, outputs, output_of, text_of}

-- a test with what it tells
pub lt_tells : (a b : ℕ) → ((nat_lt a b ≡ true) × (a < b)) ⊎ ((nat_lt a b ≡ false) × (b ≤ a))
lt_tells a b = elim (leb_tells (suc a) b) [ inl w ↦ inl w | inr w ↦ inr (w.0, omega (arith, w.1)) ]

-- these are the first of all
pub record IsPrefix {A : Type 0} (prefix all : List A) : Type 0 where
  pub more : List A
  pub whole : prefix ++ more ≡ all

pub prefix_on : {A : Type 0} {first next all : List A} → IsPrefix first next → IsPrefix next all → IsPrefix first all
prefix_on {first = first} begins goes_on = record {
  more = begins.more ++ goes_on.more;
  whole = sym (append_assoc first begins.more goes_on.more) ∙ (λ i. begins.whole i ++ goes_on.more) ∙ goes_on.whole;
}

pub lines-append : (begun xs ys : List ℕ) → lines_from begun (xs ++ ys) ≡ lines_from begun xs ++ lines_from (last_from begun xs) ys
lines-append begun [] ys = refl
lines-append begun (b ∷ xs) ys = grind (arith, nat_tests, lines-append [] xs ys, lines-append (begun ++ b ∷ []) xs ys)

pub last-append : (begun xs ys : List ℕ) → last_from begun (xs ++ ys) ≡ last_from (last_from begun xs) ys
last-append begun [] ys = refl
last-append begun (b ∷ xs) ys = grind (arith, nat_tests, last-append [] xs ys, last-append (begun ++ b ∷ []) xs ys)

-- more bytes give more units
pub units-append : (task : Task) (xs ys : List ℕ) → (later : List (List ℕ)) × (units_of task (xs ++ ys) ≡ units_of task xs ++ later)
unfolding units_of
units-append Print xs ys = (_, bodies_of-append xs ys)
units-append Pack xs ys = (_, lines-append [] xs ys)

pub units_more : (task : Task) {xs all : List ℕ} → IsPrefix xs all → IsPrefix (units_of task xs) (units_of task all)
units_more task {xs} prefix = let later = units-append task xs prefix.more in record { more = later.0; whole = sym later.1 ∙ ap (units_of task) prefix.whole }

-- bytes without a newline
one_line : (begun bytes : List ℕ) → IsOneLine bytes → (lines_from begun bytes ≡ []) × (last_from begun bytes ≡ begun ++ bytes)
one_line begun [] h = (refl, sym (append-nil begun))
one_line begun (b ∷ bytes) h = grind (arith, nat_tests, one_line (begun ++ b ∷ []) bytes, append_assoc begun (b ∷ []) bytes)

pub part_units : (read bytes : List ℕ) → IsOneLine bytes → units_of Pack (read ++ bytes) ≡ units_of Pack read
unfolding units_of
part_units read bytes h = lines-append [] read bytes ∙ (λ i. lines_from [] read ++ (one_line (last_from [] read) bytes h).0 i) ∙ append-nil (lines_from [] read)

pub part_rest : (read bytes : List ℕ) → IsOneLine bytes → rest_of Pack (read ++ bytes) ≡ rest_of Pack read ++ bytes
unfolding rest_of
part_rest read bytes h = last-append [] read bytes ∙ (one_line (last_from [] read) bytes h).1

-- and then one
pub line_units : (read bytes : List ℕ) → IsOneLine bytes → units_of Pack (read ++ bytes ++ 10 ∷ []) ≡ units_of Pack read ++ (rest_of Pack read ++ bytes) ∷ []
unfolding units_of rest_of
line_units read bytes h =
    lines-append [] (read ++ bytes) (10 ∷ []) ∙ (λ i. part_units read bytes h i ++ part_rest read bytes h i ∷ [])

pub line_rest : (read bytes : List ℕ) → rest_of Pack (read ++ bytes ++ 10 ∷ []) ≡ []
unfolding rest_of
line_rest read bytes = last-append [] (read ++ bytes) (10 ∷ [])

module _ (give : List ℕ → Option (List ℕ)) where
  abbrev pub is_bad : List (List ℕ) → Bool
  is_bad units = nat_lt (length (outputs give units)) (length units)

  -- what is sent for each of some units before the first that is bad, and whether one is
  abbrev pub outcome : List (List ℕ) → List (List ℕ) × Bool
  outcome units = (outputs give units, is_bad units)

  outcome-append : (units more : List (List ℕ)) → outcome (units ++ more) ≡ (outputs give units ++ cond (is_bad units) [] (outputs give more), is_bad units || is_bad more)
  outcome-append [] more = refl
  outcome-append (u ∷ us) more = grind (arith, nat_tests, outcome-append us more)

  -- behind a bad unit nothing is sent
  pub still_bad : {units all : List (List ℕ)} → IsPrefix units all → is_bad units ≡ true → outcome all ≡ outcome units
  still_bad {units} prefix bad = sym (ap outcome prefix.whole) ∙ outcome-append units prefix.more ∙ rw (bad, append-nil (outputs give units))

  -- behind good ones one more
  pub one_more : (units : List (List ℕ)) (u : List ℕ) {output : Option (List ℕ)} → is_bad units ≡ false → give u ≡ output
      → outcome (units ++ u ∷ []) ≡ (outputs give units ++ before_bad output [], nat_lt (length (before_bad output [])) 1)
  one_more units u good is = outcome-append units (u ∷ []) ∙ rw (good, is)

  -- what stands last is all that its output depends on
  pub same_last : (units : List (List ℕ)) (u v : List ℕ) → give u ≡ give v → outcome (units ++ u ∷ []) ≡ outcome (units ++ v ∷ [])
  same_last units u v same = outcome-append units (u ∷ []) ∙ rw same (sym (outcome-append units (v ∷ [])))

-- more units give more text
pub text_more : (task : Task) (kind : Kind) {units all : List (List ℕ)} → IsPrefix units all → IsPrefix (text_of task kind units) (text_of task kind all)
unfolding text_of
text_more task kind {units} prefix =
    let give = output_of task kind in
    let later : List (List ℕ) = cond (is_bad give units) [] (outputs give prefix.more) in
    record {
      more = concat later;
      whole = sym (concat-append (outputs give units) later) ∙ (λ i. concat (sym (outcome-append give units prefix.more) i).0) ∙ ap (text_of task kind) prefix.whole;
    }

-- a line of which the first 256 bytes were kept is too long all the same
pub cut_output : (kind : Kind) (line : List ℕ) → output_of Pack kind (take 256 line) ≡ output_of Pack kind line
unfolding output_of
cut_output kind line = grind (arith, nat_tests, take_all 256 line, length-take 256 line)

-- of a line that is begun, bytes more
pub cut_more : (rest bytes : List ℕ) → take 256 (take 256 rest ++ bytes) ≡ take 256 (rest ++ bytes)
cut_more rest bytes =
    grind (arith, leb_tells (length rest) 256, length-take 256 rest, take_all 256 rest, take_all 256 (take 256 rest), take-append-le 256 (take 256 rest) bytes, take-append-le 256 rest bytes)

-- the first of some bytes that have room
pub keep_prefix : (held bytes : List ℕ) → length held ≤ 256 → held ++ take (min (length bytes) (256 - length held)) bytes ≡ take 256 (held ++ bytes)
keep_prefix held bytes fits = grind (arith, take_min (256 - length held) bytes, take-append-add held bytes (256 - length held))
