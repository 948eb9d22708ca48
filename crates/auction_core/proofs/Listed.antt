-- The lines of an auction, one after the other.
use Rattle.std.proofs.Common.{◌≡◌, ◌⊎◌, inl, inr, cond, ℕ, zero, suc, ◌+◌, ◌-◌, ◌≤◌, ◌<◌, Bool, true, false, List, [], ◌∷◌, ◌++◌, length, take, refl, sym, ap, subst, ◌∙◌, length-append, arith, true≢false}
use Rattle.std.specs.Prelude.{Option, Some, None, is_some, nat_lt}
use Rattle.std.proofs.lemmas.List.{append-nil, take_all, take-append-le, length-take}
use Rattle.std.proofs.Math.Seq.{take-append-add}
use Rattle.std.proofs.lemmas.Bool.Decides.{leb_tells}
use Rattle.wire_core.specs.Fields.{checked}
use Rattle.wire_core.specs.OptionSteps.{◌>>=◌}
use Rattle.cross_core.specs.declared.order.Order.{Order}
use Rattle.text_core.proofs.Units.{lt_tells}
use Rattle.auction_core.specs.declared.auction.Auction.{Auction}
use Rattle.auction_core.specs.declared.listing.Listing.{Listing}
use Rattle.auction_core.specs.Reading.{auction_of, auction_in, order_of, order_in}
use Rattle.auction_core.specs.Texts.{before_bad, orders_in, auction_at, orders_at, good_lines}
use Rattle.auction_core.specs.InternalReading.{Holds, has_bad}

told : {A : Type 0} (o : Option A) → (o ≡ None) ⊎ ((x : A) × (o ≡ Some x))
told None = inl refl
told (Some x) = inr (x, refl)

-- Orders.

order_count : (l : List ℕ) (ls : List (List ℕ)) (o : Option Order) → order_in l ≡ o → length (orders_in (l ∷ ls)) ≡ length (before_bad o (orders_in ls))
order_count l ls o is = ap (λ (o : Option Order). length (before_bad o (orders_in ls))) is

pub orders_few : (lines : List (List ℕ)) → length (orders_in lines) ≤ length lines
orders_few [] = omega arith
orders_few (l ∷ ls) = elim (told (order_in l)) [
  | inl none ↦ omega (arith, order_count l ls None none)
  | inr some ↦ omega (arith, order_count l ls (Some some.0) some.1, orders_few ls)
]

orders_all : (lines more : List (List ℕ)) → length (orders_in lines) ≡ length lines → orders_in (lines ++ more) ≡ orders_in lines ++ orders_in more
orders_all [] more all = refl
orders_all (l ∷ ls) more all = elim (told (order_in l)) [
  | inl none ↦ absurd (omega (arith, all, order_count l ls None none))
  | inr some ↦ rw some.1 (ap (λ (os : List Order). some.0 ∷ os) (orders_all ls more (omega (arith, all, order_count l ls (Some some.0) some.1))))
]

orders_bad : (lines more : List (List ℕ)) → length (orders_in lines) < length lines → orders_in (lines ++ more) ≡ orders_in lines
orders_bad [] more bad = absurd (omega (arith, bad))
orders_bad (l ∷ ls) more bad = elim (told (order_in l)) [
  | inl none ↦ rw none refl
  | inr some ↦ rw some.1 (ap (λ (os : List Order). some.0 ∷ os) (orders_bad ls more (omega (arith, bad, order_count l ls (Some some.0) some.1))))
]

-- of the lines behind the first, at most a million are orders
abbrev pub taken : List (List ℕ) → List Order
taken later = orders_in (take 1000000 later)

pub taken_most : (later : List (List ℕ)) → length (taken later) ≤ 1000000
taken_most later = omega (arith, orders_few (take 1000000 later), length-take 1000000 later)

taken_few : (later : List (List ℕ)) → length (taken later) ≤ length later
taken_few later = omega (arith, orders_few (take 1000000 later), length-take 1000000 later)

module _ (later : List (List ℕ)) where
  -- where all are good there are at most a million
  pub all_fit : length (taken later) ≡ length later → length later ≤ 1000000
  all_fit all = omega (arith, all, taken_most later)

  whole : length later ≤ 1000000 → take 1000000 later ≡ later
  whole few = take_all 1000000 later few

  pub taken_good : length (taken later) ≡ length later → length (orders_in later) ≡ length later
  taken_good all = ap (λ (ls : List (List ℕ)). length (orders_in ls)) (sym (whole (all_fit all))) ∙ all

  -- a line more, where there is room
  taken_one : (line : List ℕ) → length (taken later) ≡ length later → length later < 1000000 → taken (later ++ line ∷ []) ≡ taken later ++ orders_in (line ∷ [])
  taken_one line all room =
      ap orders_in (take_all 1000000 (later ++ line ∷ []) (omega (arith, room, length-append later (line ∷ []))))
      ∙ orders_all later (line ∷ []) (taken_good all)
      ∙ ap (λ (ls : List (List ℕ)). orders_in ls ++ orders_in (line ∷ [])) (sym (whole (omega (arith, room))))

  pub taken_some : (line : List ℕ) (o : Order) → order_in line ≡ Some o → length (taken later) ≡ length later → length later < 1000000 → taken (later ++ line ∷ []) ≡ taken later ++ o ∷ []
  taken_some line o is all room = taken_one line all room ∙ ap (λ (r : Option Order). taken later ++ before_bad r []) is

  pub taken_none : (line : List ℕ) → order_in line ≡ None → length (taken later) ≡ length later → length later < 1000000 → taken (later ++ line ∷ []) ≡ taken later
  taken_none line is all room = taken_one line all room ∙ ap (λ (r : Option Order). taken later ++ before_bad r []) is ∙ append-nil (taken later)

  -- or none
  pub taken_full : (more : List (List ℕ)) → 1000000 ≤ length later → taken (later ++ more) ≡ taken later
  taken_full more full = ap orders_in (take-append-le 1000000 later more full)

  -- behind a bad line
  pub taken_bad : (more : List (List ℕ)) → length (taken later) < length later → taken (later ++ more) ≡ taken later
  taken_bad more bad = elim (leb_tells 1000000 (length later)) [
    | inl w ↦ taken_full more w.1
    | inr w ↦
        let few : length later ≤ 1000000 = omega (arith, w.1) in
        let short = ap (λ (ls : List (List ℕ)). length (orders_in ls)) (whole few) in
        ap orders_in (ap (λ (n : ℕ). take n (later ++ more)) (sym (fits few)) ∙ take-append-add later more (1000000 - length later))
        ∙ orders_bad later (take (1000000 - length later) more) (omega (arith, short, bad))
        ∙ ap orders_in (sym (whole few))
  ] where
    fits : length later ≤ 1000000 → length later + (1000000 - length later) ≡ 1000000
    fits few = omega (arith, few)

-- Lines behind a first one that is an auction.

module _ (first : List ℕ) (later : List (List ℕ)) where
  count_in : (t : Bool) → is_some (auction_in first) ≡ t → t ≡ true → good_lines (first ∷ later) ≡ length (taken later) + 1
  count_in true is e = rw is refl
  count_in false is e = absurd (true≢false (sym e))

  pub good_some : is_some (auction_in first) ≡ true → good_lines (first ∷ later) ≡ length (taken later) + 1
  good_some is = count_in true is refl

  pub good_none : is_some (auction_in first) ≡ false → good_lines (first ∷ later) ≡ 0
  good_none is = rw is refl

  pub first_bad : is_some (auction_in first) ≡ false → has_bad (first ∷ later) ≡ true
  first_bad is = elim (lt_tells (good_lines (first ∷ later)) (length (first ∷ later))) [ inl w ↦ w.0 | inr w ↦ absurd (omega (arith, w.1, good_none is)) ]

  module _ (some : is_some (auction_in first) ≡ true) where
    pub all_good : has_bad (first ∷ later) ≡ false → length (taken later) ≡ length later
    all_good good = elim (lt_tells (good_lines (first ∷ later)) (length (first ∷ later))) [
      | inl w ↦ absurd (true≢false (sym w.0 ∙ good))
      | inr w ↦ omega (arith, w.1, good_some some, taken_few later)
    ]

    pub some_bad : has_bad (first ∷ later) ≡ true → length (taken later) < length later
    some_bad bad = elim (lt_tells (good_lines (first ∷ later)) (length (first ∷ later))) [
      | inl w ↦ omega (arith, w.1, good_some some)
      | inr w ↦ absurd (true≢false (sym bad ∙ w.0))
    ]

    pub is_good : length (taken later) ≡ length later → has_bad (first ∷ later) ≡ false
    is_good all = elim (lt_tells (good_lines (first ∷ later)) (length (first ∷ later))) [
      | inl w ↦ absurd (omega (arith, w.1, good_some some, all))
      | inr w ↦ w.0
    ]

    pub is_bad : length (taken later) < length later → has_bad (first ∷ later) ≡ true
    is_bad bad = elim (lt_tells (good_lines (first ∷ later)) (length (first ∷ later))) [
      | inl w ↦ w.0
      | inr w ↦ absurd (omega (arith, w.1, good_some some, bad))
    ]

-- some lines, and more
pub record GoesOn (lines more : List (List ℕ)) : Type 0 where
  pub auction : auction_at (lines ++ more) ≡ auction_at lines
  pub orders : is_some (auction_at lines) ≡ true → orders_at (lines ++ more) ≡ orders_at lines
  pub good : good_lines (lines ++ more) ≡ good_lines lines
  pub bad : has_bad (lines ++ more) ≡ true

-- a bad line stays the first bad one
pub still_bad : (lines more : List (List ℕ)) → has_bad lines ≡ true → GoesOn lines more
still_bad [] more bad = absurd (true≢false (sym bad))
still_bad (first ∷ later) more bad = by (is_some (auction_in first)) refl where
  by : (t : Bool) → is_some (auction_in first) ≡ t → GoesOn (first ∷ later) more
  by true some =
      let short = some_bad first later some bad in
      let same = taken_bad later more short in
      record {
        auction = refl;
        orders = λ is. same;
        good = good_some first (later ++ more) some ∙ ap (λ (os : List Order). length os + 1) same ∙ sym (good_some first later some);
        bad = is_bad first (later ++ more) some (omega (arith, ap length same, short, length-append later more));
      }
  by false none = record {
    auction = refl;
    orders = λ is. absurd (true≢false (sym is ∙ none));
    good = good_none first (later ++ more) none ∙ sym (good_none first later none);
    bad = first_bad first (later ++ more) none;
  }

-- Steps of a listing.

nothing_yet : (lines : List (List ℕ)) {listing : Listing} → Holds lines listing → listing.auction ≡ None → listing.bad ≡ false → lines ≡ []
nothing_yet [] holds none going = refl
nothing_yet (first ∷ later) holds none going =
    absurd (true≢false (sym (first_bad first later (ap is_some (sym holds.auction ∙ none))) ∙ sym holds.bad ∙ going))

module _ {lines : List (List ℕ)} {listing : Listing} (holds : Holds lines listing) (going : listing.bad ≡ false) (line : List ℕ) where
  -- the first line is an auction
  pub begun_by : listing.auction ≡ None → (a : Auction) → Some a ≡ auction_in line
      → (next : Listing) → next.auction ≡ Some a → next.orders.items ≡ listing.orders.items → next.bad ≡ listing.bad → Holds (lines ++ line ∷ []) next
  begun_by none a is next auction items same = subst (λ (ls : List (List ℕ)). Holds (ls ++ line ∷ []) next) (sym empty) (record {
    auction = auction ∙ is;
    orders = λ some. items ∙ orders;
    none = λ not_some. items ∙ orders;
    bad = same ∙ going ∙ sym (is_good line [] (ap is_some (sym is)) refl);
  }) where
    empty : lines ≡ []
    empty = nothing_yet lines holds none going

    orders : listing.orders.items ≡ []
    orders = holds.none (ap (λ (ls : List (List ℕ)). is_some (auction_at ls)) empty)

  -- or none
  pub not_begun : listing.auction ≡ None → None ≡ auction_in line
      → (next : Listing) → next.auction ≡ listing.auction → next.orders.items ≡ listing.orders.items → next.bad ≡ true → Holds (lines ++ line ∷ []) next
  not_begun none is next auction items bad = subst (λ (ls : List (List ℕ)). Holds (ls ++ line ∷ []) next) (sym empty) (record {
    auction = auction ∙ none ∙ is;
    orders = λ some. absurd (true≢false (sym some ∙ ap is_some (sym is)));
    none = λ not_some. items ∙ orders;
    bad = bad ∙ sym (first_bad line [] (ap is_some (sym is)));
  }) where
    empty : lines ≡ []
    empty = nothing_yet lines holds none going

    orders : listing.orders.items ≡ []
    orders = holds.none (ap (λ (ls : List (List ℕ)). is_some (auction_at ls)) empty)

-- Steps behind the auction, of a listing that has it.

pub record Adds (lines : List (List ℕ)) (line : List ℕ) (kept : List Order) (is_bad : Bool) : Type 0 where
  pub auction : auction_at (lines ++ line ∷ []) ≡ auction_at lines
  pub orders : orders_at (lines ++ line ∷ []) ≡ kept
  pub bad : is_bad ≡ has_bad (lines ++ line ∷ [])

module _ (line : List ℕ) where
  pub adds_order : (lines : List (List ℕ)) (o : Order) → is_some (auction_at lines) ≡ true → has_bad lines ≡ false → length (orders_at lines) < 1000000 → order_in line ≡ Some o
      → Adds lines line (orders_at lines ++ o ∷ []) false
  adds_order [] o some good room is = absurd (true≢false (sym some))
  adds_order (first ∷ later) o some good room is =
      let all = all_good first later some good in
      let more = taken_some later line o is all (omega (arith, room, all)) in
      record {
        auction = refl;
        orders = more;
        bad = sym (is_good first (later ++ line ∷ []) some (omega (arith, ap length more, length-append (taken later) (o ∷ []), all, length-append later (line ∷ []))));
      }

  pub adds_none : (lines : List (List ℕ)) → is_some (auction_at lines) ≡ true → has_bad lines ≡ false → length (orders_at lines) < 1000000 → order_in line ≡ None
      → Adds lines line (orders_at lines) true
  adds_none [] some good room is = absurd (true≢false (sym some))
  adds_none (first ∷ later) some good room is =
      let all = all_good first later some good in
      let same = taken_none later line is all (omega (arith, room, all)) in
      record {
        auction = refl;
        orders = same;
        bad = sym (is_bad first (later ++ line ∷ []) some (omega (arith, ap length same, all, length-append later (line ∷ []))));
      }

  pub adds_over : (lines : List (List ℕ)) → is_some (auction_at lines) ≡ true → has_bad lines ≡ false → 1000000 ≤ length (orders_at lines)
      → Adds lines line (orders_at lines) true
  adds_over [] some good full = absurd (true≢false (sym some))
  adds_over (first ∷ later) some good full =
      let all = all_good first later some good in
      let same = taken_full later (line ∷ []) (omega (arith, full, all)) in
      record {
        auction = refl;
        orders = same;
        bad = sym (is_bad first (later ++ line ∷ []) some (omega (arith, ap length same, all, length-append later (line ∷ []))));
      }

  -- so a listing is one of a line more
  pub holds_more : {lines : List (List ℕ)} {listing : Listing} (orders : List Order) (bad : Bool) → Holds lines listing → is_some listing.auction ≡ true → Adds lines line orders bad
      → (next : Listing) → next.auction ≡ listing.auction → next.orders.items ≡ orders → next.bad ≡ bad → Holds (lines ++ line ∷ []) next
  holds_more orders bad holds some adds next auction items is_bad = record {
    auction = auction ∙ holds.auction ∙ sym adds.auction;
    orders = λ is. items ∙ sym adds.orders;
    none = λ none. absurd (true≢false (sym some ∙ ap is_some (holds.auction ∙ sym adds.auction) ∙ none));
    bad = is_bad ∙ adds.bad;
  }

-- the orders that are held are those of the lines
pub held : {lines : List (List ℕ)} {listing : Listing} → Holds lines listing → is_some listing.auction ≡ true → listing.orders.items ≡ orders_at lines
held holds some = holds.orders (ap is_some (sym holds.auction) ∙ some)

-- behind a bad line nothing changes
pub holds_rest : {lines : List (List ℕ)} {listing : Listing} (more : List (List ℕ)) → listing.bad ≡ true → Holds lines listing → Holds (lines ++ more) listing
holds_rest {lines} more bad holds =
    let on = still_bad lines more (sym holds.bad ∙ bad) in
    record {
      auction = holds.auction ∙ sym on.auction;
      orders = λ is. let was = ap is_some (sym on.auction) ∙ is in holds.orders was ∙ sym (on.orders was);
      none = λ none. holds.none (ap is_some (sym on.auction) ∙ none);
      bad = bad ∙ sym on.bad;
    }

pub holds_same : {listing : Listing} {a b : List (List ℕ)} → a ≡ b → Holds a listing → Holds b listing
holds_same {listing} same holds = subst (λ (lines : List (List ℕ)). Holds lines listing) same holds

-- Long lines.

none_of : {A : Type 0} (r : Option A) → (r >>= (λ x. checked false x)) ≡ None
none_of None = refl
none_of (Some x) = refl

pub long_order : (line : List ℕ) → 255 < length line → order_in line ≡ None
unfolding order_in
long_order line long = elim (leb_tells (length line) 255) [ inl w ↦ absurd (omega (arith, w.1, long)) | inr w ↦ rw w.0 (none_of (order_of line)) ]

pub long_auction : (line : List ℕ) → 255 < length line → auction_in line ≡ None
unfolding auction_in
long_auction line long = elim (leb_tells (length line) 255) [ inl w ↦ absurd (omega (arith, w.1, long)) | inr w ↦ rw w.0 (none_of (auction_of line)) ]

-- a line of which the first 256 bytes were kept is bad all the same
pub cut : {A : Type 0} (read : List ℕ → Option A) → ((line : List ℕ) → 255 < length line → read line ≡ None) → (line : List ℕ) → read (take 256 line) ≡ read line
cut read long line = elim (leb_tells (length line) 255) [
  | inl w ↦ ap read (take_all 256 line (omega (arith, w.1)))
  | inr w ↦ long (take 256 line) (omega (arith, length-take 256 line, w.1)) ∙ sym (long line w.1)
]

-- two lines that are read as the same
pub record Alike (u v : List ℕ) : Type 0 where
  pub auction : auction_in u ≡ auction_in v
  pub order : order_in u ≡ order_in v

pub cut_alike : (line : List ℕ) → Alike (take 256 line) line
cut_alike line = record { auction = cut auction_in long_auction line; order = cut order_in long_order line }

orders_alike : (n : ℕ) (lines : List (List ℕ)) (u v : List ℕ) → order_in u ≡ order_in v → orders_in (take n (lines ++ u ∷ [])) ≡ orders_in (take n (lines ++ v ∷ []))
orders_alike zero lines u v same = refl
orders_alike (suc n) [] u v same = ap (λ (o : Option Order). before_bad o (orders_in (take n []))) same
orders_alike (suc n) (l ∷ ls) u v same = ap (before_bad (order_in l)) (orders_alike n ls u v same)

pub holds_alike : {listing : Listing} (lines : List (List ℕ)) (u v : List ℕ) → Alike u v → Holds (lines ++ u ∷ []) listing → Holds (lines ++ v ∷ []) listing
holds_alike [] u v alike holds =
    let counts : good_lines (u ∷ []) ≡ good_lines (v ∷ []) = ap (λ (a : Option Auction). cond (is_some a) 1 0) alike.auction in
    record {
      auction = holds.auction ∙ alike.auction;
      orders = λ some. holds.orders (ap is_some alike.auction ∙ some);
      none = λ none. holds.none (ap is_some alike.auction ∙ none);
      bad = holds.bad ∙ ap (λ (n : ℕ). nat_lt n 1) counts;
    }
holds_alike (first ∷ later) u v alike holds =
    let same = orders_alike 1000000 later u v alike.order in
    let counts : length (later ++ u ∷ []) ≡ length (later ++ v ∷ []) = omega (arith, length-append later (u ∷ []), length-append later (v ∷ [])) in
    record {
      auction = holds.auction;
      orders = λ some. holds.orders some ∙ same;
      none = holds.none;
      bad = holds.bad ∙ (λ i. nat_lt (cond (is_some (auction_in first)) (length (same i) + 1) 0) (suc (counts i)));
    }

-- How many lines are good.

pub count_some : {lines : List (List ℕ)} {listing : Listing} → Holds lines listing → is_some listing.auction ≡ true → length listing.orders.items + 1 ≡ good_lines lines
count_some {lines} {listing} holds some =
    let there = ap is_some (sym holds.auction) ∙ some in
    ap (λ (os : List Order). length os + 1) (holds.orders there) ∙ sym (ap (λ (b : Bool). cond b (length (orders_at lines) + 1) 0) there)

pub count_none : {lines : List (List ℕ)} {listing : Listing} → Holds lines listing → is_some listing.auction ≡ false → 0 ≡ good_lines lines
count_none {lines} holds none = sym (ap (λ (b : Bool). cond b (length (orders_at lines) + 1) 0) (ap is_some (sym holds.auction) ∙ none))

pub none_is : {A : Type 0} (o : Option A) → is_some o ≡ false → o ≡ None
none_is None is = refl
none_is (Some x) is = absurd (true≢false is)
