-- Candidates, as they are collected and sorted.
use Rattle.std.proofs.Common.{arith, ◌≡◌, ℕ, ◌+◌, ◌<◌, Bool, true, false, Option, Some, None, List, [], ◌∷◌, ◌++◌, ◌-◌, eqb, refl, sym, ap, ◌∙◌, subst}
use Rattle.std.specs.Prelude.{Contains, ◌==◌, ◌&&◌, ◌||◌, if◌then◌else◌, length, nat_eq, nat_le, slice_index_or, take}
use Rattle.std.specs.List.{dedup, list_any}
use Rattle.std.specs.List.Sorted.{IsPermutation, IsSorted, IsStrictlyIncreasing}
use Rattle.std.specs.Ordering.{nat_cmp}
use Rattle.std.proofs.lemmas.Bool.Decides.{nat_tests}
use Rattle.std.proofs.lemmas.Cmp.{nat_eq_equiv}
use Rattle.std.proofs.lemmas.List.Elements.{Contains-get_or}
use Rattle.std.proofs.lemmas.List.Folds.{list_any-append, list_any_more}
use Rattle.std.proofs.lemmas.List.Kept.{Contains-dedup_nat, Contains-from_dedup}
use Rattle.std.proofs.lemmas.List.Sorted.{list_any-IsPermutation}
use Rattle.std.proofs.lemmas.Map.Keys.{IsStrictlyIncreasing-dedup}
use Rattle.std.proofs.lemmas.Map.Views.{Contains-from_any, list_any-from_Contains}
use Rattle.price_core.specs.declared.quote.Collars.{Collars}
use Rattle.cross_core.specs.declared.order.Order.{Order}
use Rattle.cross_core.specs.declared.steps.Step.{Step}
use Rattle.cross_core.specs.Best.{AreCandidates, is_candidate, is_edge, is_within}
use Rattle.cross_core.specs.Steps.{is_beside, is_stop, steps_of}

same_both : (s t : Bool) → (s ≡ true → t ≡ true) → (t ≡ true → s ≡ true) → s ≡ t
same_both true t on back = sym (on refl)
same_both false true on back = back refl
same_both false false on back = refl

equal : (x y : ℕ) → nat_eq x y ≡ true → x ≡ y
equal x y e = grind (arith, nat_tests)

pub contains_any : (p : ℕ) (prices : List ℕ) → list_any (nat_eq p) prices ≡ true → Contains prices p
contains_any p prices any = Contains-from_any equal p prices any

pub any_contains : (p : ℕ) (prices : List ℕ) → Contains prices p → list_any (nat_eq p) prices ≡ true
any_contains p prices contains = list_any-from_Contains nat_eq_equiv p prices contains

-- Sorted, and each once.

any_dedup : (p : ℕ) (prices : List ℕ) → list_any (nat_eq p) (dedup eqb prices) ≡ list_any (nat_eq p) prices
any_dedup p prices = same_both (list_any (nat_eq p) (dedup eqb prices)) (list_any (nat_eq p) prices)
    (λ any. any_contains p prices (Contains-from_dedup eqb prices p (contains_any p (dedup eqb prices) any)))
    (λ any. any_contains p (dedup eqb prices) (Contains-dedup_nat prices p (contains_any p prices any)))

pub any_sorted : (p : ℕ) (prices sorted kept : List ℕ) → IsPermutation prices sorted → kept ≡ dedup eqb sorted
    → list_any (nat_eq p) kept ≡ list_any (nat_eq p) prices
any_sorted p prices sorted kept permuted is =
    ap (λ (ps : List ℕ). list_any (nat_eq p) ps) is ∙ any_dedup p sorted ∙ sym (list_any-IsPermutation (nat_eq p) prices sorted permuted)

pub rising_sorted : (sorted kept : List ℕ) → IsSorted nat_cmp sorted → kept ≡ dedup eqb sorted → IsStrictlyIncreasing kept
rising_sorted sorted kept is_sorted is = subst IsStrictlyIncreasing (sym is) (IsStrictlyIncreasing-dedup sorted is_sorted)

-- What a list has that says so of each price.

are_candidates : (reference : ℕ) (collars : Collars) (orders : List Order) (prices : List ℕ)
    → ((p : ℕ) → list_any (nat_eq p) prices ≡ is_candidate reference collars orders p)
    → IsStrictlyIncreasing prices → AreCandidates reference collars orders prices
are_candidates reference collars orders prices all rising = record {
  rising = rising;
  only = λ k d below. sym (all (slice_index_or prices k d)) ∙ any_contains (slice_index_or prices k d) prices (Contains-get_or prices k d below);
  every = λ p is. contains_any p prices (all p ∙ is);
}

-- The first three, one price more, and one step more.

and_false : (t : Bool) → (t && false) ≡ false
and_false true = refl
and_false false = refl

pub collected_price : (units p : ℕ) (collars : Collars) (prices after : List ℕ) → is_within collars units ≡ true → after ≡ prices ++ units ∷ []
    → list_any (nat_eq p) after ≡ (list_any (nat_eq p) prices || (is_within collars p && p == units))
collected_price units p collars prices after within is =
    ap (λ (ps : List ℕ). list_any (nat_eq p) ps) is ∙ list_any-append (nat_eq p) prices (units ∷ []) ∙ ap (λ (t : Bool). list_any (nat_eq p) prices || t) (by (nat_eq p units) refl) where
      by : (t : Bool) → nat_eq p units ≡ t → (nat_eq p units || false) ≡ (is_within collars p && p == units)
      by true e =
          let w : is_within collars p ≡ true = ap (is_within collars) (equal p units e) ∙ within in
          ap (λ (t : Bool). t || false) e ∙ sym (ap (λ (t : Bool). is_within collars p && t) e ∙ ap (λ (t : Bool). t && true) w)
      by false e = ap (λ (t : Bool). t || false) e ∙ sym (ap (λ (t : Bool). is_within collars p && t) e ∙ and_false (is_within collars p))

pub no_price : (units p : ℕ) (collars : Collars) (before : Bool) → is_within collars units ≡ false
    → before ≡ (before || (is_within collars p && p == units))
no_price units p collars true out = refl
no_price units p collars false out = by (nat_eq p units) refl where
  by : (t : Bool) → nat_eq p units ≡ t → false ≡ (is_within collars p && p == units)
  by true e =
      let w : is_within collars p ≡ false = ap (is_within collars) (equal p units e) ∙ out in
      sym (ap (λ (t : Bool). t && (p == units)) w)
  by false e = sym (ap (λ (t : Bool). is_within collars p && t) e ∙ and_false (is_within collars p))

three : (w a b c : Bool) → (((false || (w && a)) || (w && b)) || (w && c)) ≡ (w && (a || (b || (c || false))))
three false a b c = refl
three true true b c = refl
three true false true c = refl
three true false false true = refl
three true false false false = refl

pub collected_three : (reference p : ℕ) (collars : Collars) (none first second third : Bool) → none ≡ false
    → first ≡ (none || (is_within collars p && p == collars.lower))
    → second ≡ (first || (is_within collars p && p == collars.upper))
    → third ≡ (second || (is_within collars p && p == reference))
    → third ≡ is_stop reference collars [] p
collected_three reference p collars none first second third is one two last =
    last ∙ ap (λ (t : Bool). t || (is_within collars p && p == reference))
    (two ∙ ap (λ (t : Bool). t || (is_within collars p && p == collars.upper)) (one ∙ ap (λ (t : Bool). t || (is_within collars p && p == collars.lower)) is))
    ∙ three (is_within collars p) (p == collars.lower) (p == collars.upper) (p == reference)

with_edge : (w a b c before edge : Bool) → ((w && (a || (b || (c || before)))) || (w && edge)) ≡ (w && (a || (b || (c || (before || edge)))))
with_edge false a b c before edge = refl
with_edge true true b c before edge = refl
with_edge true false true c before edge = refl
with_edge true false false true before edge = refl
with_edge true false false false before edge = refl

pub collected_step : (reference p : ℕ) (collars : Collars) (steps : List Step) (i from : ℕ) (d : Step) (before after : Bool)
    → i < length steps → from ≡ (slice_index_or steps i d).from
    → before ≡ is_stop reference collars (take i steps) p
    → after ≡ (before || (is_within collars p && is_beside p from))
    → after ≡ is_stop reference collars (take (i + 1) steps) p
collected_step reference p collars steps i from d before after below is so_far now =
    now ∙ ap (λ (t : Bool). t || (is_within collars p && is_beside p from)) so_far
    ∙ with_edge (is_within collars p) (p == collars.lower) (p == collars.upper) (p == reference) (list_any (λ (s : Step). is_beside p s.from) (take i steps)) (is_beside p from)
    ∙ ap (λ (t : Bool). is_within collars p && (p == collars.lower || (p == collars.upper || (p == reference || t))))
    (ap (λ n. list_any (λ (s : Step). is_beside p s.from) (take i steps) || is_beside p n) is ∙ sym (list_any_more (λ (s : Step). is_beside p s.from) steps i d below))

-- The two prices beside a begin, and those that are there.

pub collected_beside : (p from : ℕ) (within before first after : Bool) → first ≡ (before || (within && p == from - 1)) → after ≡ (first || (within && p == from))
    → after ≡ (before || (within && is_beside p from))
collected_beside p from within before first after one two = grind (arith, nat_tests)

pub there_already : (p from last : ℕ) (within before : Bool) → from ≡ last → (within ≡ true → is_beside p last ≡ true → before ≡ true)
    → before ≡ (before || (within && is_beside p from))
there_already p from last false before same known = by before where
  by : (t : Bool) → t ≡ (t || false)
  by true = refl
  by false = refl
there_already p from last true true same known = refl
there_already p from last true false same known = by (is_beside p last) refl where
  by : (t : Bool) → is_beside p last ≡ t → false ≡ is_beside p from
  by true e = known refl e ∙ sym e ∙ ap (is_beside p) (sym same)
  by false e = sym e ∙ ap (is_beside p) (sym same)

pub lower_is_there : (p reference : ℕ) (collars : Collars) (any : Bool) → any ≡ is_stop reference collars [] p
    → is_within collars p ≡ true → is_beside p collars.lower ≡ true → any ≡ true
lower_is_there p reference collars any is within beside = is ∙ ap (λ (t : Bool). t && (p == collars.lower || (p == collars.upper || (p == reference || false)))) within
    ∙ by p collars.lower collars.upper (or3 p) within beside where
      or3 : ℕ → Bool
      or3 q = q == collars.upper || (q == reference || false)

      by : (q lower upper : ℕ) (rest : Bool) → (nat_le lower q && nat_le q upper) ≡ true → is_beside q lower ≡ true → (q == lower || rest) ≡ true
      by q lower upper rest w b = grind (arith, nat_tests)

pub next_is_there : (within beside before after : Bool) → after ≡ (before || (within && beside)) → within ≡ true → beside ≡ true → after ≡ true
next_is_there within beside before after is w b = is ∙ ap (λ (t : Bool). before || (t && beside)) w ∙ ap (λ (t : Bool). before || t) b ∙ by before where
  by : (t : Bool) → (t || true) ≡ true
  by true = refl
  by false = refl

-- What the steps of orders say of them.

edge_of : (p own : ℕ) (buy : Bool) → (own == p || (if buy then own + 1 == p else own == p + 1)) ≡ is_beside p (if buy then own + 1 else own)
edge_of p own true = grind (arith, nat_tests)
edge_of p own false = refl

edges_one : (p : ℕ) (buy : Bool) (price : Option ℕ) (size : ℕ) (orders : List Order)
    → list_any (is_edge p) orders ≡ list_any (λ (s : Step). is_beside p s.from) (steps_of orders)
    → list_any (is_edge p) (record { buy = buy; price = price; size = size } ∷ orders)
    ≡ list_any (λ (s : Step). is_beside p s.from) (steps_of (record { buy = buy; price = price; size = size } ∷ orders))
edges_one p buy None size orders rest = rest
edges_one p buy (Some own) size orders rest =
    ap (λ (t : Bool). t || list_any (is_edge p) orders) (edge_of p own buy) ∙ ap (λ (t : Bool). is_beside p (if buy then own + 1 else own) || t) rest

edges_are : (p : ℕ) (orders : List Order) → list_any (is_edge p) orders ≡ list_any (λ (s : Step). is_beside p s.from) (steps_of orders)
edges_are p [] = refl
edges_are p (o ∷ orders) = edges_one p o.buy o.price o.size orders (edges_are p orders)

stop_is_candidate : (reference p : ℕ) (collars : Collars) (orders : List Order) (steps : List Step) → IsPermutation (steps_of orders) steps
    → is_stop reference collars steps p ≡ is_candidate reference collars orders p
stop_is_candidate reference p collars orders steps permuted =
    ap (λ (t : Bool). is_within collars p && (p == collars.lower || (p == collars.upper || (p == reference || t))))
    (sym (list_any-IsPermutation (λ (s : Step). is_beside p s.from) (steps_of orders) steps permuted) ∙ sym (edges_are p orders))

pub stops_are_candidates : (reference : ℕ) (collars : Collars) (orders : List Order) (steps : List Step) (prices : List ℕ) → IsPermutation (steps_of orders) steps
    → ((p : ℕ) → list_any (nat_eq p) prices ≡ is_stop reference collars steps p)
    → IsStrictlyIncreasing prices → AreCandidates reference collars orders prices
stops_are_candidates reference collars orders steps prices permuted all rising =
    are_candidates reference collars orders prices (λ p. all p ∙ stop_is_candidate reference p collars orders steps permuted) rising
