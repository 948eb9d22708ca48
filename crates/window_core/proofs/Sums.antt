-- Deals with the sum of their prices, in order.
use Rattle.std.proofs.Common.{◌≡◌, ℕ, ◌+◌, ◌*◌, ◌≤◌, ◌<◌, Bool, true, false, cond, List, [], ◌∷◌, ◌++◌, filter, length, length-append, sum_by, refl, sym, ap, arith, subst, ◌∙◌}
use Rattle.std.specs.Prelude.{Some, None, ◌-◌, ◌==◌, ◌&&◌, drop, nat_le, not, slice_get, slice_index_or}
use Rattle.std.proofs.lemmas.Bool.Decides.{nat_tests}
use Rattle.std.proofs.lemmas.List.Sums.{sum_by-append}
use Rattle.price_core.specs.Ranges.{IsPrice}
use Rattle.session_core.specs.Durations.{five_minutes}
use Rattle.window_core.specs.declared.window.Deal.{Deal}
use Rattle.window_core.specs.Deals.{is_live, is_numbered, live, stays}
use Rattle.window_core.specs.Summed.{AllFrom, AllPriced, AllUpTo, InOrder, IsSummed}
use Rattle.window_core.specs.Tallies.{Tallies}

-- the first of a list
pub first_is : (items : List Deal) (x : Deal) → 0 < length items → x ≡ slice_index_or items 0 x → slice_get items 0 ≡ Some x
first_is [] x some is = absurd (omega arith)
first_is (d ∷ items) x some is = ap Some (sym is)

one_live : (t e : ℕ) (d : Deal) → t < e + five_minutes → e ≤ d.moment → is_live t d ≡ true
one_live t e d young before = grind (arith, nat_tests)

-- where none is before a moment of less than five minutes ago, each is live
from_live : (t e : ℕ) (deals : List Deal) → t < e + five_minutes → AllFrom e deals → live t deals ≡ deals
from_live t e [] young all = refl
from_live t e (d ∷ deals) young all = simp (one_live t e d young all.0) (ap (λ (ds : List Deal). d ∷ ds) (from_live t e deals young all.1))

pub is_young : (t : ℕ) (d : Deal) → is_live t d ≡ true → t < d.moment + five_minutes
is_young t d live = grind (arith, nat_tests)

-- where the first is live, each of them in order is
pub first_live : (t : ℕ) (deals : List Deal) (d : Deal) → InOrder deals → slice_get deals 0 ≡ Some d → is_live t d ≡ true → live t deals ≡ deals
first_live t [] d order is young = refl
first_live t (e ∷ deals) d order is young =
    let same : e ≡ d = cc in
    let here : is_live t e ≡ true = ap (is_live t) same ∙ young in
    simp here (ap (λ (ds : List Deal). e ∷ ds) (from_live t e.moment deals (is_young t e here) order.0))

-- the same, before the first is five minutes old
pub young_live : (t : ℕ) (deals : List Deal) (d : Deal) → InOrder deals → slice_get deals 0 ≡ Some d → t < d.moment + five_minutes → live t deals ≡ deals
young_live t deals d order is young = first_live t deals d order is (one_live t d.moment d young (omega arith))

pub none_live : (t : ℕ) (deals : List Deal) → slice_get deals 0 ≡ None → live t deals ≡ deals
none_live t [] none = refl
none_live t (d ∷ deals) none = absurd cc

-- One deal more.

from_push : (t : ℕ) (deals : List Deal) (d : Deal) → AllFrom t deals → t ≤ d.moment → AllFrom t (deals ++ d ∷ [])
from_push t [] d all le = (le, tt)
from_push t (e ∷ deals) d all le = (all.0, from_push t deals d all.1 le)

pub order_push : (newest : ℕ) (deals : List Deal) (d : Deal) → InOrder deals → AllUpTo newest deals → newest ≤ d.moment → InOrder (deals ++ d ∷ [])
order_push newest [] d order late le = (tt, tt)
order_push newest (e ∷ deals) d order late le =
    let before = late.0 in
    (from_push e.moment deals d order.0 (omega arith), order_push newest deals d order.1 late.1 le)

pub late_push : (old new : ℕ) (deals : List Deal) (d : Deal) → AllUpTo old deals → old ≤ new → d.moment ≤ new → AllUpTo new (deals ++ d ∷ [])
late_push old new [] d late le own = (own, tt)
late_push old new (e ∷ deals) d late le own = let before = late.0 in (omega arith, late_push old new deals d late.1 le own)

-- Some of the deals.

from_some : (t : ℕ) (test : Deal → Bool) (deals : List Deal) → AllFrom t deals → AllFrom t (filter test deals)
from_some t test [] all = tt
from_some t test (d ∷ deals) all = by (test d) (from_some t test deals all.1) where
  by : (b : Bool) → AllFrom t (filter test deals) → AllFrom t (cond b (d ∷ filter test deals) (filter test deals))
  by true rest = (all.0, rest)
  by false rest = rest

pub order_some : (test : Deal → Bool) (deals : List Deal) → InOrder deals → InOrder (filter test deals)
order_some test [] order = tt
order_some test (d ∷ deals) order = by (test d) (order_some test deals order.1) where
  by : (b : Bool) → InOrder (filter test deals) → InOrder (cond b (d ∷ filter test deals) (filter test deals))
  by true rest = (from_some d.moment test deals order.0, rest)
  by false rest = rest

pub late_some : (t : ℕ) (test : Deal → Bool) (deals : List Deal) → AllUpTo t deals → AllUpTo t (filter test deals)
late_some t test [] all = tt
late_some t test (d ∷ deals) all = by (test d) (late_some t test deals all.1) where
  by : (b : Bool) → AllUpTo t (filter test deals) → AllUpTo t (cond b (d ∷ filter test deals) (filter test deals))
  by true rest = (all.0, rest)
  by false rest = rest

priced_some : (test : Deal → Bool) (deals : List Deal) → AllPriced deals → AllPriced (filter test deals)
priced_some test [] all = tt
priced_some test (d ∷ deals) all = by (test d) (priced_some test deals all.1) where
  by : (b : Bool) → AllPriced (filter test deals) → AllPriced (cond b (d ∷ filter test deals) (filter test deals))
  by true rest = (all.0, rest)
  by false rest = rest

priced_push : (deals : List Deal) (d : Deal) → AllPriced deals → IsPrice d.price → AllPriced (deals ++ d ∷ [])
priced_push [] d all own = (own, tt)
priced_push (e ∷ deals) d all own = (all.0, priced_push deals d all.1 own)

-- The sum and the number.

pub sum_first : (d : Deal) (deals : List Deal) → sum_by (λ d. d.price) (d ∷ deals) ≡ d.price + sum_by (λ d. d.price) deals
sum_first d deals = let parts = sum_by-append (λ d. d.price) (d ∷ []) deals in omega arith

pub tallies_of : (sum : ℕ) (deals : List Deal) → sum ≡ sum_by (λ d. d.price) deals → AllPriced deals → Tallies sum (length deals) deals
tallies_of sum deals is all = let bounds = by deals all in record { sum_is = is; count_is = refl; least = rw is bounds.0; greatest = rw is bounds.1 } where
  by : (deals : List Deal) → AllPriced deals → (length deals ≤ sum_by (λ d. d.price) deals) × (sum_by (λ d. d.price) deals ≤ 99999999999 * length deals)
  by [] all = (omega arith, omega arith)
  by (d ∷ deals) all =
      let step : sum_by (λ d. d.price) (d ∷ deals) ≡ d.price + sum_by (λ d. d.price) deals = sum_first d deals in
      let rest = by deals all.1 in
      let least = rest.0 in
      let greatest = rest.1 in
      let own_least = all.0.least in
      let own_greatest = all.0.most in (omega arith, omega arith)

-- the sum of some of them is added up anew
pub summed_some : (old sum newest : ℕ) (ordered : Bool) (test : Deal → Bool) (deals some : List Deal) → some ≡ filter test deals → Tallies sum (length some) some → IsSummed old newest ordered deals
    → IsSummed sum newest ordered some
summed_some old sum newest ordered test deals some is tallies s =
    record { tallies = tallies; priced = rw is (priced_some test deals s.priced); late = rw is (late_some newest test deals s.late); order = λ e. rw is (order_some test deals (s.order e)) }

-- Deals of a number are removed.

-- one deal more, of that number or not
split_one : (number : ℕ) (d : Deal) (rest left gone : List Deal) (b : Bool) → sum_by (λ d. d.price) left + sum_by (λ d. d.price) gone ≡ sum_by (λ d. d.price) rest
    → sum_by (λ d. d.price) (cond (not b) (d ∷ left) left) + sum_by (λ d. d.price) (cond b (d ∷ gone) gone) ≡ sum_by (λ d. d.price) (d ∷ rest)
split_one number d rest left gone true e = let all = sum_first d rest in let own = sum_first d gone in omega arith
split_one number d rest left gone false e = let all = sum_first d rest in let own = sum_first d left in omega arith

sum_split : (number : ℕ) (deals : List Deal) → sum_by (λ d. d.price) (filter (stays number) deals) + sum_by (λ d. d.price) (filter (is_numbered number) deals) ≡ sum_by (λ d. d.price) deals
sum_split number [] = refl
sum_split number (d ∷ deals) = split_one number d deals (filter (stays number) deals) (filter (is_numbered number) deals) (d.number == number) (sum_split number deals)

-- none of them is of that number
pub none_numbered : (number : ℕ) (deals : List Deal) → length (filter (is_numbered number) deals) ≡ 0 → filter (stays number) deals ≡ deals
none_numbered number [] e = refl
none_numbered number (d ∷ deals) e = by (d.number == number) e (none_numbered number deals) where
  by : (b : Bool) → length (cond b (d ∷ filter (is_numbered number) deals) (filter (is_numbered number) deals)) ≡ 0
      → (length (filter (is_numbered number) deals) ≡ 0 → filter (stays number) deals ≡ deals) → cond (not b) (d ∷ filter (stays number) deals) (filter (stays number) deals) ≡ d ∷ deals
  by true e rest = absurd (omega arith)
  by false e rest = ap (λ (ds : List Deal). d ∷ ds) (rest e)

-- their sum is at most that of all
pub numbered_most : (number sum count newest total : ℕ) (ordered : Bool) (deals : List Deal) → Tallies sum count (filter (is_numbered number) deals) → IsSummed total newest ordered deals → sum ≤ total
numbered_most number sum count newest total ordered deals gone s = let split = sum_split number deals in let is = gone.sum_is in let all = s.tallies.sum_is in omega arith

pub summed_removed : (number sum count newest total : ℕ) (ordered : Bool) (deals left : List Deal) → left ≡ filter (stays number) deals → Tallies sum count (filter (is_numbered number) deals) → IsSummed total newest ordered deals
    → IsSummed (total - sum) newest ordered left
summed_removed number sum count newest total ordered deals left is gone s =
    let priced : AllPriced left = rw is (priced_some (stays number) deals s.priced) in
    let split = sum_split number deals in
    let own = gone.sum_is in
    let all = s.tallies.sum_is in
    let removed : sum_by (λ d. d.price) left ≡ sum_by (λ d. d.price) (filter (stays number) deals) = ap (λ (ds : List Deal). sum_by (λ d. d.price) ds) is in
    summed_some total (total - sum) newest ordered (stays number) deals left is (tallies_of (total - sum) left (omega arith) priced) s

both_true : (a b : Bool) → (a && b) ≡ true → (a ≡ true) × (b ≡ true)
both_true true b e = (refl, e)
both_true false b e = absurd cc

at_most : (a b : ℕ) → nat_le a b ≡ true → a ≤ b
at_most a b e = grind (arith, nat_tests)

-- one more
pub summed_push : (sum newest new price : ℕ) (ordered now : Bool) (deals after : List Deal) (d : Deal) → price ≡ d.price → IsPrice d.price → after ≡ deals ++ d ∷ [] → newest ≤ new → d.moment ≤ new
    → now ≡ (ordered && nat_le newest d.moment) → IsSummed sum newest ordered deals → IsSummed (sum + price) new now after
summed_push sum newest new price ordered now deals after d is range pushed le own follows s =
    subst (λ (ds : List Deal). IsSummed (sum + price) new now ds) (sym pushed)
    (record {
      tallies = tallies_of (sum + price) (deals ++ d ∷ [])
          ((λ i. s.tallies.sum_is i + is i) ∙ sym (sum_by-append (λ d. d.price) deals (d ∷ []) ∙ ap (λ (n : ℕ). sum_by (λ d. d.price) deals + n) (omega arith))) (priced_push deals d s.priced range);
      priced = priced_push deals d s.priced range;
      late = late_push newest new deals d s.late le own;
      order = λ e. let both = both_true ordered (nat_le newest d.moment) (sym follows ∙ e) in order_push newest deals d (s.order both.0) s.late (at_most newest d.moment both.1);
    })

-- the first one less
pub first_priced : (sum newest : ℕ) (ordered : Bool) (deals : List Deal) (d : Deal) → slice_get deals 0 ≡ Some d → IsSummed sum newest ordered deals → d.price ≤ sum
first_priced sum newest ordered [] d is s = absurd cc
first_priced sum newest ordered (e ∷ deals) d is s = let same : e ≡ d = cc in let price : e.price ≡ d.price = ap (λ (x : Deal). x.price) same in let step : sum_by (λ d. d.price) (e ∷ deals) ≡ e.price + sum_by (λ d. d.price) deals = sum_first e deals in let total = s.tallies.sum_is in omega arith

pub summed_rest : (sum newest price : ℕ) (ordered : Bool) (deals rest : List Deal) (d : Deal) → slice_get deals 0 ≡ Some d → price ≡ d.price → rest ≡ drop 1 deals → IsSummed sum newest ordered deals → IsSummed (sum - price) newest ordered rest
summed_rest sum newest price ordered [] rest d is p r s = absurd cc
summed_rest sum newest price ordered (e ∷ deals) rest d is p r s =
    let same : e ≡ d = cc in
    let own : e.price ≡ d.price = ap (λ (x : Deal). x.price) same in
    let step : sum_by (λ d. d.price) (e ∷ deals) ≡ e.price + sum_by (λ d. d.price) deals = sum_first e deals in
    let total = s.tallies.sum_is in
    subst (λ (ds : List Deal). IsSummed (sum - price) newest ordered ds) (sym r)
    (record { tallies = tallies_of (sum - price) deals (omega arith) s.priced.1; priced = s.priced.1; late = s.late.1; order = λ e. (s.order e).1 })

-- an old first deal is none of the live ones
pub live_rest : (t : ℕ) (deals rest : List Deal) (d : Deal) → slice_get deals 0 ≡ Some d → is_live t d ≡ false → rest ≡ drop 1 deals → live t rest ≡ live t deals
live_rest t [] rest d is old r = absurd cc
live_rest t (e ∷ deals) rest d is old r =
    let same : e ≡ d = cc in
    ap (live t) r ∙ sym (ap (λ (b : Bool). cond b (e ∷ live t deals) (live t deals)) (ap (is_live t) same ∙ old))

-- and that of two parts is that of both
pub tallies_both : (a b : ℕ) (xs ys all : List Deal) → xs ++ ys ≡ all → a ≡ sum_by (λ d. d.price) xs → b ≡ sum_by (λ d. d.price) ys → length xs ≤ a → length ys ≤ b → a ≤ 99999999999 * length xs → b ≤ 99999999999 * length ys
    → Tallies (a + b) (length all) all
tallies_both a b xs ys all is one two least_one least_two most_one most_two =
    subst (λ (ds : List Deal). Tallies (a + b) (length ds) ds) is
    (record {
      sum_is = (λ i. one i + two i) ∙ sym (sum_by-append (λ d. d.price) xs ys);
      count_is = refl;
      least = rw (length-append xs ys) (omega arith);
      greatest = rw (length-append xs ys) (omega arith);
    })
