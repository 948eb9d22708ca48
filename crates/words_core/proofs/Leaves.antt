-- What each command of the command line reads of rows that passed.
use Rattle.std.proofs.Common.{◌≡◌, ◌∙◌, ℕ, ◌+◌, ◌-◌, ◌*◌, ◌^◌, Bool, cond, codes, true, false, refl, sym, ap, subst, arith, List, [], ◌∷◌, length, drop, is_some, true≢false, nat_lt, le-leb, ltb-true, ne_eqb}
use Rattle.std.specs.Prelude.{◌&&◌, ◌||◌, ◌==◌, not}
use Rattle.std.specs.Borrow.{Bor}
use Rattle.std.specs.Char.{digit_value}
use Rattle.std.specs.List.{list_all, list_any}
use Rattle.std.specs.Str.{bytes_eq}
use Rattle.std.specs.Str.Parse.{AllDigits, digits_value, without_leading_plus}
use Rattle.std.proofs.lemmas.Slice.Eq.{bytes_eq-Decides}
use Rattle.std.proofs.lemmas.Str.Parse.{digit_from_value, numerals_by_fold, tells_digits}
use Rattle.clap.specs.Values.{refused_kind}
use Rattle.clap.specs.ValueTests.{accepts}
use Rattle.clap.specs.Kinds.{value_kinds}
use Rattle.clap.specs.declared.builder.value_parser.ValueParser.{ValueParser}
use Rattle.clap.specs.declared.builder.value_parser.ValueParser.TheVariants.{Names, Unsigned}
use Rattle.clap.proofs.WalkLemmas.{both, list_any-map}
use Rattle.words_core.specs.Commands.{kind_of}
use Rattle.words_core.specs.Line.{CommandLine}
use Rattle.words_core.specs.Numbers.{is_digit, numeral_in, value_behind, within, without_plus}
use Rattle.words_core.proofs.Passing.{some_kind}

-- ---- values that a parser takes

accepted : (ignore_case : Bool) (p : ValueParser) (v : List ℕ) → value_kinds ignore_case p v ≡ [] → accepts ignore_case p v ≡ true
accepted ignore_case p v e = go (accepts ignore_case p v) e
  where
    go : (b : Bool) → cond b [] (refused_kind p ∷ []) ≡ [] → b ≡ true
    go true e = refl
    go false e = absurd (some_kind _ _ e)

same_rest : (v : List ℕ) → without_leading_plus v ≡ without_plus v
same_rest [] = refl
same_rest (x ∷ xs) = go (x == 43)
  where
    some : not (length (x ∷ xs) == 0) ≡ true
    some = ap not (ne_eqb _ 0 (λ e. omega (arith, e)))

    go : (b : Bool) → drop (cond b 1 0) (x ∷ xs) ≡ cond (not (length (x ∷ xs) == 0) && b) (drop 1 (x ∷ xs)) (x ∷ xs)
    go true = rw some refl
    go false = rw some refl

are_digits : (ds : List ℕ) → list_all (λ d. nat_lt (digit_value d) 10) ds ≡ true → AllDigits 10 ds × (list_all is_digit ds ≡ true)
are_digits [] e = (tt, refl)
are_digits (d ∷ ds) e =
    let parts = both (nat_lt (digit_value d) 10) _ e in
    let value = ltb-true _ _ parts.0 in
    let digit = digit_from_value d value in
    let later = are_digits ds parts.1 in
    ((value, later.0), rw (le-leb 48 d digit.0, le-leb d 57 digit.1) later.1)

same_value : (ds : List ℕ) → AllDigits 10 ds → value_behind 0 ds ≡ digits_value 10 ds
same_value = (numerals_by_fold (AllDigits 10) tells_digits value_behind (record {
  empty = λ n. refl;
  more = λ n c cs k. ap (λ m. value_behind m cs) (times n c);
})).same
  where
    times : (n c : ℕ) → 10 * n + (c - 48) ≡ n * 10 + (c - 48)
    times n c = omega arith

-- a number that the parser takes is in its range
pub number_taken : (least most : ℕ) (v : List ℕ) → value_kinds false (Unsigned least most) v ≡ [] → is_some (numeral_in least most v) ≡ true
number_taken least most v e =
    let ds = without_leading_plus v in
    let parts = both (nat_lt 0 (length ds) && list_all (λ d. nat_lt (digit_value d) 10) ds) _ (accepted false (Unsigned least most) v e) in
    let shape = both (nat_lt 0 (length ds)) _ parts.0 in
    let range = (both (nat_lt (digits_value 10 ds) (2 ^ 64)) _ parts.1).1 in
    let digits = are_digits ds shape.1 in
    let some : not (length ds == 0) ≡ true = ap not (ne_eqb _ 0 (λ none. omega (arith, none, ltb-true _ _ shape.0))) in
    let there : is_some (within least most ds) ≡ true = rw (some, digits.1, same_value ds digits.0, range) refl in
    subst (λ t. is_some (within least most t) ≡ true) (same_rest v) there

-- a word that the parser of kinds takes is one of the two
pub kind_taken : (line : CommandLine) (v : List ℕ) → value_kinds false (Names line.kinds) v ≡ [] → is_some (kind_of v) ≡ true
kind_taken line v e =
    let among : list_any (λ t. bytes_eq t v) (codes "records" ∷ codes "published" ∷ []) ≡ true =
    ap (list_any (λ t. bytes_eq t v)) (sym line.words) ∙ sym (list_any-map (λ t. bytes_eq t v) (λ (w : Bor (List ℕ)). w.now) line.kinds.now) ∙ accepted false (Names line.kinds) v e in
    go (bytes_eq (codes "records") v) refl (bytes_eq (codes "published") v) refl among
  where
    go : (a : Bool) → bytes_eq (codes "records") v ≡ a → (b : Bool) → bytes_eq (codes "published") v ≡ b → (a || (b || false)) ≡ true → is_some (kind_of v) ≡ true
    go true is b other e = subst (λ t. is_some (kind_of t) ≡ true) {x = codes "records"} ((bytes_eq-Decides (codes "records") v).0 is) refl
    go false other true is e = subst (λ t. is_some (kind_of t) ≡ true) {x = codes "published"} ((bytes_eq-Decides (codes "published") v).0 is) refl
    go false other false others e = absurd (true≢false (sym e))
