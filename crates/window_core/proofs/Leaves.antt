-- Deals leave one after the other.
use Rattle.std.proofs.Common.{◌≡◌, ℕ, ◌+◌, ◌≤◌, ◌<◌, Bool, true, false, List, ◌∷◌, sum_by, refl, sym, ap, subst, ◌∙◌, arith}
use Rattle.std.specs.Prelude.{Some, None, ◌==◌, if◌then◌else◌, max, nat_lt, drop, length, ◌-◌, ◌&&◌, slice_index_or}
use Rattle.std.specs.Option.{option_map_or}
use Rattle.std.proofs.lemmas.Bool.Decides.{nat_tests}
use Rattle.std.proofs.lemmas.List.{drop_more, length-drop}
use Rattle.price_core.specs.Moves.{moved_one_percent}
use Rattle.price_core.specs.Rounding.{mean}
use Rattle.session_core.specs.Durations.{five_minutes}
use Rattle.window_core.specs.declared.window.Deal.{Deal}
use Rattle.window_core.specs.Deals.{is_live, live, mean_has_moved}
use Rattle.window_core.specs.Leaving.{IsQueue}
use Rattle.window_core.specs.Tallies.{Tallies}
use Rattle.window_core.proofs.Sums.{first_live, sum_first, tallies_of, young_live}

old : (u : ℕ) (d : Deal) → d.moment + five_minutes ≤ u → is_live u d ≡ false
old u d le = grind (arith, nat_tests)

young : (u : ℕ) (d : Deal) → u < d.moment + five_minutes → is_live u d ≡ true
young u d before = grind (arith, nat_tests)

old_first : (u : ℕ) (d : Deal) (rest : List Deal) → d.moment + five_minutes ≤ u → live u (d ∷ rest) ≡ live u rest
old_first u d rest le = simp (old u d le) refl

tallied : (reference sum count : ℕ) (deals : List Deal) → Tallies sum count deals
    → option_map_or (λ m. moved_one_percent m reference) (if count == 0 then None else Some (mean sum count)) false ≡ false → mean_has_moved reference deals ≡ false
tallied reference sum count deals tallies e =
    (λ i. option_map_or (λ m. moved_one_percent m reference) (if sym tallies.count_is i == 0 then None else Some (mean (sym tallies.sum_is i) (sym tallies.count_is i))) false) ∙ e

-- how many are left
pub count_left : (n most sum count : ℕ) (deals : List Deal) → Tallies sum count (drop n deals) → length deals ≤ most → count ≤ most - n
count_left n most sum count deals tallies few = let left = length-drop n deals in let all = tallies.count_is in omega arith

-- the deals from one on are left from a moment on, before which the mean of those that are left is near a reference price
pub record AreLeft (reference from begin sum count : ℕ) (all rest : List Deal) : Type 0 where
  pub queue : IsQueue sum count rest
  pub left : (u : ℕ) → begin ≤ u → live u all ≡ live u rest
  pub near : (u : ℕ) → from ≤ u → u < begin → mean_has_moved reference (live u all) ≡ false

-- the next one is the first of those that are left
pub next_left : (reference from begin sum count index : ℕ) (deals : List Deal) (d : Deal) → index < length deals → d ≡ slice_index_or deals index d → AreLeft reference from begin sum count deals (drop index deals)
    → AreLeft reference from begin sum count deals (d ∷ drop (index + 1) deals)
next_left reference from begin sum count index deals d within is are =
    subst (λ (rest : List Deal). AreLeft reference from begin sum count deals rest) (drop_more deals index d within ∙ ap (λ (e : Deal). e ∷ drop (index + 1) deals) (sym is)) are

pub all_left : (reference from sum count : ℕ) (all : List Deal) → IsQueue sum count all → AreLeft reference from from sum count all all
all_left reference from sum count all queue = record { queue = queue; left = λ u le. refl; near = λ u le before. absurd (omega arith) }

without_first : (sum count price : ℕ) (d : Deal) (rest : List Deal) → price ≡ d.price → IsQueue sum count (d ∷ rest) → IsQueue (sum - price) (count - 1) rest
without_first sum count price d rest is queue =
    let step : sum_by (λ d. d.price) (d ∷ rest) ≡ d.price + sum_by (λ d. d.price) rest = sum_first d rest in
    let total = queue.tallies.sum_is in
    let all = queue.tallies.count_is in
    record {
      tallies = subst (λ (n : ℕ). Tallies (sum - price) n rest) (omega arith) (tallies_of (sum - price) rest (omega arith) queue.priced.1);
      priced = queue.priced.1;
      order = queue.order.1;
    }

-- once it leaves
pub first_leaves : (reference from begin sum count until price : ℕ) (all rest : List Deal) (d : Deal) → until ≡ max begin (d.moment + five_minutes) → price ≡ d.price
    → (begin < d.moment + five_minutes → option_map_or (λ m. moved_one_percent m reference) (if count == 0 then None else Some (mean sum count)) false ≡ false)
    → AreLeft reference from begin sum count all (d ∷ rest) → AreLeft reference from until (sum - price) (count - 1) all rest
first_leaves reference from begin sum count until price all rest d until_is price_is still are = record {
  queue = without_first sum count price d rest price_is are.queue;
  left = λ u le. are.left u (omega (arith, le, until_is)) ∙ old_first u d rest (omega (arith, le, until_is));
  near = λ u after before. by u after before (nat_lt u begin) refl;
} where
  by : (u : ℕ) → from ≤ u → u < until → (b : Bool) → nat_lt u begin ≡ b → mean_has_moved reference (live u all) ≡ false
  by u after before true e = are.near u after (grind (arith, nat_tests))
  by u after before false e =
      let le : begin ≤ u = grind (arith, nat_tests) in
      ap (mean_has_moved reference) (are.left u le ∙ young_live u (d ∷ rest) d are.queue.order refl (omega (arith, before, until_is, le)))
      ∙ tallied reference sum count (d ∷ rest) are.queue.tallies (still (omega (arith, before, until_is, le)))

-- of what is told by both tests at once
pub second_false : (a b : ℕ) (second : Bool) → (nat_lt a b && second) ≡ false → a < b → second ≡ false
second_false a b second e lt = grind (arith, nat_tests)

-- none leaves before the first does
pub first_stays : (reference from until sum count u : ℕ) (deals rest : List Deal) (d : Deal) → IsQueue sum count deals → deals ≡ d ∷ rest → until ≤ max from (d.moment + five_minutes)
    → (from < until → option_map_or (λ m. moved_one_percent m reference) (if count == 0 then None else Some (mean sum count)) false ≡ false)
    → from ≤ u → u < until → mean_has_moved reference (live u deals) ≡ false
first_stays reference from until sum count u deals rest d all is most still le before =
    let queue : IsQueue sum count (d ∷ rest) = subst (λ (ds : List Deal). IsQueue sum count ds) is all in
    ap (mean_has_moved reference) (ap (live u) is ∙ first_live u (d ∷ rest) d queue.order refl (young u d (omega (arith, le, before, most))))
    ∙ tallied reference sum count (d ∷ rest) queue.tallies (still (omega (arith, le, before)))
