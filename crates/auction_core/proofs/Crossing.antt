-- The orders of an auction have one cross, and one list of fills.
use Rattle.std.proofs.Common.{◌≡◌, ◌⊎◌, inl, inr, ℕ, zero, suc, ◌+◌, ◌-◌, ◌≤◌, ◌<◌, Bool, true, false, List, [], ◌∷◌, ◌++◌, length, take, map, get_or, refl, sym, ap, ◌∙◌, append_assoc, arith, true≢false}
use Rattle.std.specs.Prelude.{None, All, Contains}
use Rattle.std.specs.List.{filter, range_with_len, AllPairs}
use Rattle.std.specs.List.Sorted.{IsStrictlyIncreasing}
use Rattle.std.specs.Ordering.{is_lt}
use Rattle.std.proofs.lemmas.Bool.Decides.{eqb_tells}
use Rattle.std.proofs.lemmas.Grind.{same_number_lists}
use Rattle.std.proofs.lemmas.List.{append-nil, length-map}
use Rattle.std.proofs.lemmas.List.Elements.{All-cons, All-contains, All-head, All-nil, All-tail, filter_passes}
use Rattle.std.proofs.lemmas.List.FromFn.{get_or-range_with_len, length-range_with_len}
use Rattle.std.proofs.lemmas.List.Kept.{AllPairs-from_increasing, IsStrictlyIncreasing-filter}
use Rattle.price_core.specs.declared.quote.Collars.{Collars}
use Rattle.cross_core.specs.declared.order.Order.{Order}
use Rattle.cross_core.specs.declared.order.Row.{Row}
use Rattle.cross_core.specs.declared.order.Crossed.{Crossed}
use Rattle.cross_core.specs.Best.{AreCandidates, IsBest, IsCross, is_candidate, is_within, ranking}
use Rattle.cross_core.specs.Fills.{AreFills, fill}
use Rattle.cross_core.specs.Sums.{left, row_at, row_imbalance, row_volume}
use Rattle.cross_core.proofs.BestOfAll.{candidate_within, within_high, within_low}
use Rattle.cross_core.proofs.Joined.{IsFirst, is_cross, some_candidate}
use Rattle.cross_core.proofs.Ranks.{beats_trans, none_beats_itself, still_unbeaten}

-- Elements of lists.

behind_first : {X : Type 0} (x : X) (xs : List X) (q : X) → Contains xs q → Contains (x ∷ xs) q
behind_first x xs q c = (suc c.0, omega (arith, c.1), c.2)

in_rest : {X : Type 0} (x : X) (xs : List X) (q : X) → Contains (x ∷ xs) q → (x ≡ q) ⊎ Contains xs q
in_rest x xs q c = by c.0 c.1 c.2 where
  by : (k : ℕ) → k < length (x ∷ xs) → get_or (x ∷ xs) k q ≡ q → (x ≡ q) ⊎ Contains xs q
  by zero below is = inl is
  by (suc k) below is = inr (k, omega (arith, below), is)

-- a filter keeps what passes
keeps_one : (p : ℕ → Bool) (x : ℕ) (xs : List ℕ) (q : ℕ) → p q ≡ true → (Contains xs q → Contains (filter p xs) q) → (x ≡ q) ⊎ Contains xs q → (t : Bool) → p x ≡ t → Contains (filter p (x ∷ xs)) q
keeps_one p x xs q passes more (inl is) true e = rw e (zero, omega arith, is)
keeps_one p x xs q passes more (inl is) false e = absurd (true≢false (sym passes ∙ ap p (sym is) ∙ e))
keeps_one p x xs q passes more (inr c) true e = rw e (behind_first x (filter p xs) q (more c))
keeps_one p x xs q passes more (inr c) false e = rw e (more c)

keeps : (p : ℕ → Bool) (xs : List ℕ) (q : ℕ) → p q ≡ true → Contains xs q → Contains (filter p xs) q
keeps p [] q passes c = absurd (omega (arith, c.1))
keeps p (x ∷ xs) q passes c = keeps_one p x xs q passes (keeps p xs q passes) (in_rest x xs q c) (p x) refl

-- Rising lists of the same numbers are the same.

abbrev Rises : List ℕ → Type 0
Rises [] = Unit {0}
Rises (x ∷ xs) = All (λ y. x < y) xs × Rises xs

pairs_rise : (xs : List ℕ) → AllPairs (λ x y. x < y) xs → Rises xs
pairs_rise [] pairs = tt
pairs_rise (x ∷ xs) pairs = (
  λ k d below. pairs zero (suc k) d (omega arith) (omega (arith, below)),
  pairs_rise xs (λ i j d before below. pairs (suc i) (suc j) d (omega (arith, before)) (omega (arith, below))),
)

same_first : (x y : ℕ) (xs ys : List ℕ) → All (λ z. x < z) xs → All (λ z. y < z) ys → (x ≡ y) ⊎ Contains xs y → (y ≡ x) ⊎ Contains ys x → x ≡ y
same_first x y xs ys above beyond (inl is) there = is
same_first x y xs ys above beyond (inr c) (inl is) = sym is
same_first x y xs ys above beyond (inr c) (inr d) = absurd (omega (arith, All-contains (λ (z : ℕ). x < z) xs y above c, All-contains (λ (z : ℕ). y < z) ys x beyond d))

same_rising : (xs ys : List ℕ) → Rises xs → Rises ys → ((p : ℕ) → Contains xs p → Contains ys p) → ((p : ℕ) → Contains ys p → Contains xs p) → xs ≡ ys
same_rising [] [] a b to back = refl
same_rising [] (y ∷ ys) a b to back = absurd (omega (arith, (back y (zero, omega arith, refl)).1))
same_rising (x ∷ xs) [] a b to back = absurd (omega (arith, (to x (zero, omega arith, refl)).1))
same_rising (x ∷ xs) (y ∷ ys) a b to back = λ i. first i ∷ same_rising xs ys a.1 b.1 rest others i where
  first : x ≡ y
  first = same_first x y xs ys a.0 b.0 (in_rest x xs y (back y (zero, omega arith, refl))) (in_rest y ys x (to x (zero, omega arith, refl)))

  rest : (p : ℕ) → Contains xs p → Contains ys p
  rest p c = elim (in_rest y ys p (to p (behind_first x xs p c))) [
    | inl is ↦ absurd (omega (arith, All-contains (λ (z : ℕ). x < z) xs p a.0 c, first, is))
    | inr d ↦ d
  ]

  others : (p : ℕ) → Contains ys p → Contains xs p
  others p c = elim (in_rest x xs p (back p (behind_first y ys p c))) [
    | inl is ↦ absurd (omega (arith, All-contains (λ (z : ℕ). y < z) ys p b.0 c, first, is))
    | inr d ↦ d
  ]

-- The candidates.

module _ (reference : ℕ) (collars : Collars) (orders : List Order) where
  abbrev numbers : List ℕ
  numbers = range_with_len collars.lower (collars.upper + 1 - collars.lower)

  abbrev candidates : List ℕ
  candidates = filter (is_candidate reference collars orders) numbers

  numbers_rise : IsStrictlyIncreasing numbers
  numbers_rise k below =
      let n = collars.upper + 1 - collars.lower in
      let count = length-range_with_len collars.lower n in
      let here = get_or-range_with_len collars.lower n k 0 (omega (arith, below, count)) in
      let next = get_or-range_with_len collars.lower n (k + 1) 0 (omega (arith, below, count)) in
      omega (arith, here, next)

  among : (q : ℕ) → is_within collars q ≡ true → Contains numbers q
  among q within =
      let low = within_low collars.lower collars.upper q within in
      let high = within_high collars.lower collars.upper q within in
      let n = collars.upper + 1 - collars.lower in (
        q - collars.lower,
        omega (arith, length-range_with_len collars.lower n, low, high),
        get_or-range_with_len collars.lower n (q - collars.lower) q (omega (arith, low, high)) ∙ omega (arith, low),
      )

  pub are_candidates : AreCandidates reference collars orders candidates
  are_candidates = record {
    rising = IsStrictlyIncreasing-filter (is_candidate reference collars orders) numbers numbers_rise;
    only = filter_passes (is_candidate reference collars orders) numbers;
    every = λ p is. keeps (is_candidate reference collars orders) numbers p is (among p (candidate_within (is_within collars p) _ is));
  }

  -- and they are all candidates there are
  same_candidates : (xs ys : List ℕ) → AreCandidates reference collars orders xs → AreCandidates reference collars orders ys → xs ≡ ys
  same_candidates xs ys a b =
      same_rising xs ys (pairs_rise xs (AllPairs-from_increasing xs a.rising)) (pairs_rise ys (AllPairs-from_increasing ys b.rising))
      (λ p c. b.every p (All-contains (λ (q : ℕ). is_candidate reference collars orders q ≡ true) xs p a.only c))
      (λ p c. a.every p (All-contains (λ (q : ℕ). is_candidate reference collars orders q ≡ true) ys p b.only c))

  -- Of some rows one is first.

  none_first : (row : Row) → IsFirst reference (row ∷ []) (row ∷ []) row
  none_first row = record {
    among = (zero, omega arith, refl);
    first = All-cons (λ (r : Row). is_lt (ranking reference r row) ≡ false) row [] (none_beats_itself reference row) (All-nil (λ (r : Row). is_lt (ranking reference r row) ≡ false));
  }

  -- with one more before them
  one_first : (row : Row) (rows : List Row) (first : Row) → IsFirst reference rows rows first → (t : Bool) → is_lt (ranking reference row first) ≡ t → (f : Row) × IsFirst reference (row ∷ rows) (row ∷ rows) f
  one_first row rows first is true better = (
    row,
    record {
      among = (zero, omega arith, refl);
      first = All-cons (λ (r : Row). is_lt (ranking reference r row) ≡ false) row rows (none_beats_itself reference row)
          (λ k d below. still_unbeaten reference (get_or rows k d) first row (is.first k d below) better);
    },
  )
  one_first row rows first is false worse = (
    first,
    record {
      among = behind_first row rows first is.among;
      first = All-cons (λ (r : Row). is_lt (ranking reference r first) ≡ false) row rows worse is.first;
    },
  )

  some_first : (row : Row) (rows : List Row) → (f : Row) × IsFirst reference (row ∷ rows) (row ∷ rows) f
  some_first row [] = (row, none_first row)
  some_first row (next ∷ rows) =
      let more = some_first next rows in
      one_first row (next ∷ rows) more.0 more.1 (is_lt (ranking reference row more.0)) refl

  first_of : (rows : List Row) → 0 < length rows → (f : Row) × IsFirst reference rows rows f
  first_of [] some = absurd (omega (arith, some))
  first_of (row ∷ rows) some = some_first row rows

  -- so there is a cross
  pub a_cross : collars.lower ≤ collars.upper → (crossed : Crossed) × IsCross reference collars orders crossed
  a_cross order =
      let some = some_candidate reference collars orders candidates order are_candidates in
      let rows = map (row_at orders) candidates in
      let first = first_of rows (omega (arith, some, length-map candidates (row_at orders))) in (
        record { price = first.0.price; volume = row_volume first.0; imbalance = row_imbalance first.0; left = left orders (row_volume first.0); rows = rows },
        is_cross reference collars orders candidates rows first.0 (row_volume first.0) (row_imbalance first.0) (left orders (row_volume first.0)) are_candidates refl first.1 refl refl refl,
      )

  -- and no other

  rows_are : (rows : List Row) → All (λ row. row ≡ row_at orders row.price) rows → rows ≡ map (row_at orders) (map (λ (row : Row). row.price) rows)
  rows_are [] all = refl
  rows_are (row ∷ rows) all = λ i. All-head (λ (r : Row). r ≡ row_at orders r.price) row rows all i ∷ rows_are rows (All-tail (λ (r : Row). r ≡ row_at orders r.price) row rows all) i

  same_best : (p q : ℕ) → IsBest reference collars orders p → IsBest reference collars orders q → p ≡ q
  same_best p q a b = elim (eqb_tells p q) [
    | inl w ↦ w.1
    | inr w ↦
        let first = a.beats_all q b.within (λ same. w.1 (sym same)) in
        let second = b.beats_all p a.within w.1 in
        absurd (true≢false (sym (beats_trans reference (row_at orders p) (row_at orders q) (row_at orders p) first second) ∙ none_beats_itself reference (row_at orders p)))
  ]

  pub same_cross : (x y : Crossed) → IsCross reference collars orders x → IsCross reference collars orders y → x ≡ y
  same_cross x y a b = λ i. record { price = price i; volume = volume i; imbalance = imbalance i; left = side i; rows = rows i } where
    price : x.price ≡ y.price
    price = same_best x.price y.price a.best b.best

    volume : x.volume ≡ y.volume
    volume = a.volume ∙ ap (λ (p : ℕ). row_volume (row_at orders p)) price ∙ sym b.volume

    imbalance : x.imbalance ≡ y.imbalance
    imbalance = a.imbalance ∙ ap (λ (p : ℕ). row_imbalance (row_at orders p)) price ∙ sym b.imbalance

    side : x.left ≡ y.left
    side = a.left ∙ ap (left orders) volume ∙ sym b.left

    rows : x.rows ≡ y.rows
    rows =
        rows_are x.rows a.sums
        ∙ ap (λ (ps : List ℕ). map (row_at orders) ps) (same_candidates (map (λ (row : Row). row.price) x.rows) (map (λ (row : Row). row.price) y.rows) a.candidates b.candidates)
        ∙ sym (rows_are y.rows b.sums)

-- The fills.

module _ (p volume : ℕ) (orders : List Order) where
  abbrev pub fills_from : List Order → List Order → List ℕ
  fills_from earlier [] = []
  fills_from earlier (o ∷ later) = fill p volume orders earlier o ∷ fills_from (earlier ++ o ∷ []) later

  fills_length : (earlier later : List Order) → length (fills_from earlier later) ≡ length later
  fills_length earlier [] = refl
  fills_length earlier (o ∷ later) = ap suc (fills_length (earlier ++ o ∷ []) later)

  fills_at : (earlier later : List Order) (k : ℕ) (o : Order) → k < length later → get_or (fills_from earlier later) k 0 ≡ fill p volume orders (earlier ++ take k later) (get_or later k o)
  fills_at earlier [] k o below = absurd (omega (arith, below))
  fills_at earlier (x ∷ later) zero o below = ap (λ (es : List Order). fill p volume orders es x) (sym (append-nil earlier))
  fills_at earlier (x ∷ later) (suc k) o below =
      fills_at (earlier ++ x ∷ []) later k o (omega (arith, below))
      ∙ ap (λ (es : List Order). fill p volume orders es (get_or later k o)) (append_assoc earlier (x ∷ []) (take k later))

  pub are_some_fills : AreFills p volume orders (fills_from [] orders)
  are_some_fills = record { count = fills_length [] orders; each = λ k o below. fills_at [] orders k o below }

  pub same_fills : (a b : List ℕ) → AreFills p volume orders a → AreFills p volume orders b → a ≡ b
  same_fills a b first second =
      same_number_lists a b (first.count ∙ sym second.count)
      (λ k below.
      let o : Order = record { buy = false; price = None; size = 0 } in
      let within : k < length orders = omega (arith, below, first.count) in
      first.each k o within ∙ sym (second.each k o within))
