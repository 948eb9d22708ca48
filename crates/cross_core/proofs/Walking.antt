-- A walk over the steps of orders leads to the sums at each price.
use Rattle.std.proofs.Common.{arith, ◌≡◌, ℕ, ◌+◌, ◌-◌, ◌*◌, ◌<◌, ◌≤◌, Bool, true, false, Option, Some, None, List, [], ◌∷◌, drop, length, take, refl, sym, ap, ◌∙◌, subst, sum_by}
use Rattle.std.specs.Prelude.{All, if◌then◌else◌, slice_index_or}
use Rattle.std.specs.List.Sorted.{IsNonDecreasingBy, IsPermutation, IsStrictlyIncreasing}
use Rattle.std.proofs.lemmas.Bool.Decides.{nat_tests}
use Rattle.std.proofs.lemmas.List.{get_or-drop, get_or-take, get_or_default, length-drop, length-take, take-take}
use Rattle.std.proofs.lemmas.List.Elements.{All-same, All-take}
use Rattle.std.proofs.lemmas.List.Kept.{AllPairs-from_increasing}
use Rattle.std.proofs.lemmas.List.Sorted.{sum_by-IsPermutation}
use Rattle.std.proofs.lemmas.List.Sums.{sum_by-cons, sum_by-drop_more, sum_by-le, sum_by-le-sum_by, sum_by_more}
use Rattle.cross_core.specs.declared.order.Order.{Order}
use Rattle.cross_core.specs.declared.steps.Step.{Step}
use Rattle.cross_core.specs.declared.steps.Walk.{Walk}
use Rattle.cross_core.specs.Sums.{bought, buy_sum, market_sold, row_at, sell_sum, sells_at, sold}
use Rattle.cross_core.specs.Steps.{IsUpTo, Stands, added, added_by, all_bought, steps_of, taken, taken_by, walked}

-- One step.

step_taken : (p from size : ℕ) (buy : Bool) → from ≤ p → taken_by p (record { from = from; buy = buy; size = size }) ≡ (if buy then size else 0)
step_taken p from size true low = grind (arith, nat_tests)
step_taken p from size false low = refl

step_added : (p from size : ℕ) (buy : Bool) → from ≤ p → added_by p (record { from = from; buy = buy; size = size }) ≡ (if buy then 0 else size)
step_added p from size true low = refl
step_added p from size false low = grind (arith, nat_tests)

taken_low : (before buy size rest : ℕ) (is_buy : Bool) → before ≡ (if is_buy then size else 0) + rest → before ≤ buy
    → rest ≤ (if is_buy then buy - size else buy)
taken_low before buy size rest true is low = omega arith
taken_low before buy size rest false is low = omega arith

taken_more : (before rest buy size rest_at all from before_at : ℕ) (is_buy : Bool) → before ≡ (if is_buy then size else 0) + rest → before ≤ buy
    → before_at ≡ (if is_buy then size else 0) + rest_at → buy + all ≡ from + before_at
    → (if is_buy then buy - size else buy) + all ≡ from + rest_at
taken_more before rest buy size rest_at all from before_at true is low at so_far = omega arith
taken_more before rest buy size rest_at all from before_at false is low at so_far = omega arith

added_one : (before sell size rest : ℕ) (is_buy : Bool) → before ≡ (if is_buy then 0 else size) + rest
    → sell + before ≡ (if is_buy then sell else sell + size) + rest
added_one before sell size rest true is = omega arith
added_one before sell size rest false is = omega arith

pub walk_more : (price : ℕ) (steps : List Step) (from walk : Walk) (d : Step) → walk.next < length steps
    → (slice_index_or steps walk.next d).from ≤ price → IsUpTo price steps from walk → IsUpTo price steps from (walked (slice_index_or steps walk.next d) walk)
walk_more price steps from walk d below low so_far = record {
  place = omega arith;
  takes = taken_low (taken price (drop walk.next steps)) walk.buy s.size (taken price (drop (walk.next + 1) steps)) s.buy (takes_at price low) so_far.takes;
  adds =
      let few = so_far.adds in
      let kept = added_one (added price (drop walk.next steps)) walk.sell s.size (added price (drop (walk.next + 1) steps)) s.buy (adds_at price low) in
      omega arith;
  buys = λ q above. taken_more (taken price (drop walk.next steps)) (taken price (drop (walk.next + 1) steps)) walk.buy s.size (taken q (drop (walk.next + 1) steps))
      (taken q (drop from.next steps)) from.buy (taken q (drop walk.next steps)) s.buy (takes_at price low) so_far.takes (takes_at q (omega arith)) (so_far.buys q above);
  sells = λ q above.
      so_far.sells q above ∙ added_one (added q (drop walk.next steps)) walk.sell s.size (added q (drop (walk.next + 1) steps)) s.buy (adds_at q (omega arith));
} where
  s : Step
  s = slice_index_or steps walk.next d

  takes_at : (q : ℕ) → s.from ≤ q → taken q (drop walk.next steps) ≡ (if s.buy then s.size else 0) + taken q (drop (walk.next + 1) steps)
  takes_at q high =
      sum_by-drop_more (taken_by q) steps walk.next d below
      ∙ ap (λ n. n + taken q (drop (walk.next + 1) steps)) (step_taken q s.from s.size s.buy high)

  adds_at : (q : ℕ) → s.from ≤ q → added q (drop walk.next steps) ≡ (if s.buy then 0 else s.size) + added q (drop (walk.next + 1) steps)
  adds_at q high =
      sum_by-drop_more (added_by q) steps walk.next d below
      ∙ ap (λ n. n + added q (drop (walk.next + 1) steps)) (step_added q s.from s.size s.buy high)

-- The begin.

pub sum_more : (f : Order → ℕ) (orders : List Order) (i : ℕ) (o : Order) (sum after : ℕ) → i < length orders → o ≡ slice_index_or orders i o
    → sum ≡ sum_by f (take i orders) → after ≡ sum + f o → after ≡ sum_by f (take (i + 1) orders)
sum_more f orders i o sum after below is so_far now =
    now ∙ ap (λ n. n + f o) so_far ∙ ap (λ (x : Order). sum_by f (take i orders) + f x) is ∙ sym (sum_by_more f orders i o below)

pub most_more : (f : Order → ℕ) (orders : List Order) (i most : ℕ) (o : Order) → i < length orders → o ≡ slice_index_or orders i o → f o ≤ most
    → sum_by f (take i orders) ≤ most * i → sum_by f (take (i + 1) orders) ≤ most * (i + 1)
most_more f orders i most o below is fits so_far =
    let more = sum_more f orders i o (sum_by f (take i orders)) (sum_by f (take i orders) + f o) below is refl refl in
    omega (arith, more)

buys_of : (q size : ℕ) (buy : Bool) (own : ℕ)
    → bought q (record { buy = buy; price = Some own; size = size }) + taken_by q (record { from = if buy then own + 1 else own; buy = buy; size = size })
    ≡ (if buy then size else 0)
buys_of q size true own = grind (arith, nat_tests)
buys_of q size false own = refl

sells_of : (q size : ℕ) (buy : Bool) (own : ℕ)
    → sold q (record { buy = buy; price = Some own; size = size }) ≡ added_by q (record { from = if buy then own + 1 else own; buy = buy; size = size })
sells_of q size true own = refl
sells_of q size false own = refl

no_market : (size : ℕ) (buy : Bool) (own : ℕ) → market_sold (record { buy = buy; price = Some own; size = size }) ≡ 0
no_market size true own = refl
no_market size false own = refl

market_buys_of : (q size : ℕ) (buy : Bool) → bought q (record { buy = buy; price = None; size = size }) ≡ (if buy then size else 0)
market_buys_of q size true = refl
market_buys_of q size false = refl

market_sells_of : (q size : ℕ) (buy : Bool)
    → sold q (record { buy = buy; price = None; size = size }) ≡ market_sold (record { buy = buy; price = None; size = size })
market_sells_of q size true = refl
market_sells_of q size false = refl

total_one : (q : ℕ) (buy : Bool) (price : Option ℕ) (size : ℕ) (orders : List Order)
    → buy_sum q orders + taken q (steps_of orders) ≡ sum_by all_bought orders
    → buy_sum q (record { buy = buy; price = price; size = size } ∷ orders) + taken q (steps_of (record { buy = buy; price = price; size = size } ∷ orders))
    ≡ sum_by all_bought (record { buy = buy; price = price; size = size } ∷ orders)
total_one q buy None size orders rest =
    let o : Order = record { buy = buy; price = None; size = size } in
    let first = sum_by-cons (bought q) o orders in
    let all = sum_by-cons all_bought o orders in
    let one = market_buys_of q size buy in
    omega (arith, first, all, one, rest)
total_one q buy (Some own) size orders rest =
    let o : Order = record { buy = buy; price = Some own; size = size } in
    let s : Step = record { from = if buy then own + 1 else own; buy = buy; size = size } in
    let first = sum_by-cons (bought q) o orders in
    let step = sum_by-cons (taken_by q) s (steps_of orders) in
    let all = sum_by-cons all_bought o orders in
    let one = buys_of q size buy own in
    omega (arith, first, step, all, one, rest)

total_buys : (q : ℕ) (orders : List Order) → buy_sum q orders + taken q (steps_of orders) ≡ sum_by all_bought orders
total_buys q [] = refl
total_buys q (o ∷ orders) = total_one q o.buy o.price o.size orders (total_buys q orders)

sells_one : (q : ℕ) (buy : Bool) (price : Option ℕ) (size : ℕ) (orders : List Order)
    → sell_sum q orders ≡ sum_by market_sold orders + added q (steps_of orders)
    → sell_sum q (record { buy = buy; price = price; size = size } ∷ orders)
    ≡ sum_by market_sold (record { buy = buy; price = price; size = size } ∷ orders) + added q (steps_of (record { buy = buy; price = price; size = size } ∷ orders))
sells_one q buy None size orders rest =
    let o : Order = record { buy = buy; price = None; size = size } in
    let first = sum_by-cons (sold q) o orders in
    let all = sum_by-cons market_sold o orders in
    let one = market_sells_of q size buy in
    omega (arith, first, all, one, rest)
sells_one q buy (Some own) size orders rest =
    let o : Order = record { buy = buy; price = Some own; size = size } in
    let s : Step = record { from = if buy then own + 1 else own; buy = buy; size = size } in
    let first = sum_by-cons (sold q) o orders in
    let step = sum_by-cons (added_by q) s (steps_of orders) in
    let all = sum_by-cons market_sold o orders in
    let one = sells_of q size buy own in
    let none = no_market size buy own in
    omega (arith, first, step, all, one, none, rest)

total_sells : (q : ℕ) (orders : List Order) → sell_sum q orders ≡ sum_by market_sold orders + added q (steps_of orders)
total_sells q [] = refl
total_sells q (o ∷ orders) = sells_one q o.buy o.price o.size orders (total_sells q orders)

pub stands_first : (orders : List Order) (steps : List Step) (buy sell : ℕ) → IsPermutation (steps_of orders) steps
    → buy ≡ sum_by all_bought orders → sell ≡ sum_by market_sold orders → Stands orders [] buy sell steps
stands_first orders steps buy sell permuted is_buy is_sell = record {
  buys = λ q passed. ap (λ n. buy_sum q orders + n) (sum_by-IsPermutation (taken_by q) (steps_of orders) steps permuted) ∙ total_buys q orders ∙ sym is_buy;
  sells = λ q passed.
      total_sells q orders ∙ ap (λ n. n + added q (steps_of orders)) (sym is_sell)
      ∙ ap (λ n. sell + n) (sym (sum_by-IsPermutation (added_by q) (steps_of orders) steps permuted));
}

-- Up to a price.

sells_most : (q : ℕ) (orders : List Order) → sell_sum q orders ≤ sum_by (λ (o : Order). o.size) orders
sells_most q orders = sum_by-le-sum_by (sold q) (λ (o : Order). o.size) orders (λ o. at_most (sells_at q o) o.size) where
  at_most : (t : Bool) (n : ℕ) → (if t then n else 0) ≤ n
  at_most true n = omega arith
  at_most false n = omega arith

passed_below : (prices : List ℕ) (i : ℕ) (d : ℕ) → IsStrictlyIncreasing prices → i < length prices → All (λ p. p ≤ slice_index_or prices i d) (take i prices)
passed_below prices i d rising below = λ k e short.
    let before : k < i = omega (arith, length-take i prices, short) in
    let at = get_or-take i prices k e before in
    let up = AllPairs-from_increasing prices rising k i e before below in
    let here = get_or_default prices i e d below in
    omega (arith, at, up, here)

passed_before : (q : ℕ) (prices : List ℕ) (i : ℕ) → All (λ p. p ≤ q) (take (i + 1) prices) → All (λ p. p ≤ q) (take i prices)
passed_before q prices i passed =
    All-same (λ p. p ≤ q) (take i prices) (take i (take (i + 1) prices)) (sym (take-take i (i + 1) prices (omega arith)))
    (All-take (λ p. p ≤ q) i (take (i + 1) prices) passed)

passed_last : (q : ℕ) (prices : List ℕ) (i d : ℕ) → i < length prices → All (λ p. p ≤ q) (take (i + 1) prices) → slice_index_or prices i d ≤ q
passed_last q prices i d below passed =
    let at = get_or-take (i + 1) prices i d (omega arith) in
    let low = passed i d (omega (arith, length-take (i + 1) prices)) in
    omega (arith, at, low)

pub up_to_first : (orders : List Order) (prices : List ℕ) (i price : ℕ) (steps : List Step) (walk : Walk) → IsStrictlyIncreasing prices → i < length prices
    → price ≡ slice_index_or prices i price → walk.next ≤ length steps
    → sum_by (λ (o : Order). o.size) orders ≤ 4294967295 * length orders → length orders ≤ 1000000
    → Stands orders (take i prices) walk.buy walk.sell (drop walk.next steps) → IsUpTo price steps walk walk
up_to_first orders prices i price steps walk rising below is place most few stands = record {
  place = place;
  takes = omega (arith, stands.buys price passed);
  adds = omega (arith, stands.sells price passed, sells_most price orders);
  buys = λ q above. refl;
  sells = λ q above. refl;
} where
  passed : All (λ p. p ≤ price) (take i prices)
  passed = subst (λ (x : ℕ). All (λ p. p ≤ x) (take i prices)) (sym is) (passed_below prices i price rising below)

none_taken : (price : ℕ) (steps : List Step) (i : ℕ) (d : Step) → IsNonDecreasingBy (λ (s : Step). s.from) steps
    → ((d : Step) → i < length steps → price < (slice_index_or steps i d).from)
    → All (λ (s : Step). price < s.from) (drop i steps)
none_taken price steps i d rising rest = λ k e short.
    let at = get_or-drop i steps k e in
    let within : i + k < length steps = omega (arith, length-drop i steps, short) in
    let first = rest e (omega arith) in
    let up = rising i (i + k) e (omega arith) within in
    subst (λ (s : Step). price < s.from) (sym at) (omega (arith, first, up))

none_ahead : (price : ℕ) (f : Step → ℕ) (steps : List Step) → ((s : Step) → price < s.from → f s ≤ 0) → All (λ (s : Step). price < s.from) steps → sum_by f steps ≡ 0
none_ahead price f steps zero beyond =
    let most = sum_by-le f 0 steps (λ k d below. zero (slice_index_or steps k d) (beyond k d below)) in
    omega (arith, most)

taken_zero : (price from size : ℕ) (buy : Bool) → price < from → taken_by price (record { from = from; buy = buy; size = size }) ≤ 0
taken_zero price from size true far = grind (arith, nat_tests)
taken_zero price from size false far = omega arith

added_zero : (price from size : ℕ) (buy : Bool) → price < from → added_by price (record { from = from; buy = buy; size = size }) ≤ 0
added_zero price from size true far = omega arith
added_zero price from size false far = grind (arith, nat_tests)

beyond_taken : (price : ℕ) (steps : List Step) (i : ℕ) (d : Step) → IsNonDecreasingBy (λ (s : Step). s.from) steps
    → ((d : Step) → i < length steps → price < (slice_index_or steps i d).from) → taken price (drop i steps) ≡ 0
beyond_taken price steps i d rising rest =
    none_ahead price (taken_by price) (drop i steps) (λ s far. taken_zero price s.from s.size s.buy far) (none_taken price steps i d rising rest)

beyond_added : (price : ℕ) (steps : List Step) (i : ℕ) (d : Step) → IsNonDecreasingBy (λ (s : Step). s.from) steps
    → ((d : Step) → i < length steps → price < (slice_index_or steps i d).from) → added price (drop i steps) ≡ 0
beyond_added price steps i d rising rest =
    none_ahead price (added_by price) (drop i steps) (λ s far. added_zero price s.from s.size s.buy far) (none_taken price steps i d rising rest)

-- One price more.

module _ (orders : List Order) (prices : List ℕ) (i price : ℕ) (steps : List Step) (walk next : Walk)
    (below : i < length prices) (is : price ≡ slice_index_or prices i price) (up : IsUpTo price steps walk next)
    (stands : Stands orders (take i prices) walk.buy walk.sell (drop walk.next steps)) where
  buys_then : (q : ℕ) → price ≤ q → All (λ p. p ≤ q) (take i prices) → buy_sum q orders + taken q (drop next.next steps) ≡ next.buy
  buys_then q above passed =
      let was = stands.buys q passed in
      let on = up.buys q above in
      omega (arith, was, on)

  sells_then : (q : ℕ) → price ≤ q → All (λ p. p ≤ q) (take i prices) → sell_sum q orders ≡ next.sell + added q (drop next.next steps)
  sells_then q above passed = stands.sells q passed ∙ up.sells q above

  reaches : (q : ℕ) → All (λ p. p ≤ q) (take (i + 1) prices) → price ≤ q
  reaches q passed = subst (λ n. n ≤ q) (sym is) (passed_last q prices i price below passed)

  pub stands_more : Stands orders (take (i + 1) prices) next.buy next.sell (drop next.next steps)
  stands_more = record {
    buys = λ q passed. buys_then q (reaches q passed) (passed_before q prices i passed);
    sells = λ q passed. sells_then q (reaches q passed) (passed_before q prices i passed);
  }

  pub row_there : IsStrictlyIncreasing prices → IsNonDecreasingBy (λ (s : Step). s.from) steps
      → ((d : Step) → next.next < length steps → price < (slice_index_or steps next.next d).from)
      → record { price = price; buy = next.buy; sell = next.sell } ≡ row_at orders price
  row_there rising sorted rest = λ j. record { price = price; buy = buys j; sell = sells j } where
    passed : All (λ p. p ≤ price) (take i prices)
    passed = subst (λ (x : ℕ). All (λ p. p ≤ x) (take i prices)) (sym is) (passed_below prices i price rising below)

    no_step : Step
    no_step = record { from = 0; buy = false; size = 0 }

    buys : next.buy ≡ buy_sum price orders
    buys =
        let reached = buys_then price (omega arith) passed in
        let none = beyond_taken price steps next.next no_step sorted rest in
        omega (arith, reached, none)

    sells : next.sell ≡ sell_sum price orders
    sells =
        let reached = sells_then price (omega arith) passed in
        let none = beyond_added price steps next.next no_step sorted rest in
        omega (arith, reached, none)
