-- Whether a mean has moved by one per cent, by its sum, without a division by the number of deals.
use Rattle.std.proofs.Common.{arith, ◌≡◌, ℕ, ◌+◌, ◌*◌, ◌≤◌, ◌<◌, Bool, true, false, refl, sym, ap, ◌∙◌}
use Rattle.std.specs.Prelude.{◌↔◌, ◌-◌, ◌/◌, ◌||◌, ◌==◌, Some, None, if◌then◌else◌, nat_le, nat_lt}
use Rattle.std.specs.Option.{option_map_or}
use Rattle.std.proofs.Math.Nat.{div-lt_iff_lt-mul, le-div_iff_mul-le, lt-mul-div-succ, mul-div-le}
use Rattle.std.proofs.lemmas.Bool.Decides.{nat_tests}
use Rattle.price_core.specs.Ranges.{IsPrice}
use Rattle.price_core.specs.Moves.{distance, moved_one_percent}
use Rattle.price_core.specs.Rounding.{mean}

at_most : (a b : ℕ) → nat_le a b ≡ true → a ≤ b
at_most a b e = grind (arith, nat_tests)

pub above : (a b : ℕ) → nat_le a b ≡ false → b < a
above a b e = grind (arith, nat_tests)

is_at_most : (a b : ℕ) → a ≤ b → true ≡ nat_le a b
is_at_most a b le = grind (arith, nat_tests)

pub is_above : (a b : ℕ) → b < a → false ≡ nat_le a b
is_above a b lt = grind (arith, nat_tests)

pub below : (a b : ℕ) → nat_lt a b ≡ true → a < b
below a b e = grind (arith, nat_tests)

from : (a b : ℕ) → nat_lt a b ≡ false → b ≤ a
from a b e = grind (arith, nat_tests)

moves_up : (m r c : ℕ) → r ≤ 100 * c → r + c ≤ m → r ≤ 100 * distance m r
moves_up m r c part up = omega arith

moves_down : (m r c : ℕ) → r ≤ 100 * c → c ≤ r → m < r - c + 1 → r ≤ 100 * distance m r
moves_down m r c part small down = omega arith

pub stays : (m r c : ℕ) → 100 * c ≤ r + 99 → c ≤ r → m < r + c → r - c + 1 ≤ m → 100 * distance m r < r
stays m r c part small up down = omega arith

-- by a hundredth of a price, rounded up
by_bounds : (total high low m r c : ℕ) → 0 < r → r ≤ 100 * c → 100 * c ≤ r + 99 → (r + c ≤ m) ↔ (high ≤ total) → (m < r - c + 1) ↔ (total < low)
    → (nat_le high total || nat_lt total low) ≡ nat_le r (100 * distance m r)
by_bounds total high low m r c some least most up down = by (nat_le high total) (nat_lt total low) refl refl where
  small : c ≤ r
  small = omega arith

  under : (a b : ℕ) → ((b ≤ a) → (high ≤ total)) → total < high → a < b
  under a b f lt = lt_of (nat_lt a b) refl where
    lt_of : (t : Bool) → nat_lt a b ≡ t → a < b
    lt_of true e = below a b e
    lt_of false e = let too = f (from a b e) in absurd (omega arith)

  over : (a b : ℕ) → ((a < b) → (total < low)) → low ≤ total → b ≤ a
  over a b f le = le_of (nat_lt a b) refl where
    le_of : (t : Bool) → nat_lt a b ≡ t → b ≤ a
    le_of true e = let too = f (below a b e) in absurd (omega arith)
    le_of false e = from a b e

  by : (a b : Bool) → nat_le high total ≡ a → nat_lt total low ≡ b → (a || b) ≡ nat_le r (100 * distance m r)
  by true b e f = is_at_most r (100 * distance m r) (moves_up m r c least (up.1 (at_most high total e)))
  by false true e f = is_at_most r (100 * distance m r) (moves_down m r c least small (down.1 (below total low f)))
  by false false e f = is_above r (100 * distance m r) (stays m r c most small (under m (r + c) up.0 (above high total e)) (over m (r - c + 1) down.0 (from total low f)))

moved-by_sum : (sum n r c : ℕ) → 0 < n → 0 < r → c ≡ (r + 99) / 100
    → (nat_le ((r + c) * (2 * n)) (2 * sum + n) || nat_lt (2 * sum + n) ((r - c + 1) * (2 * n))) ≡ moved_one_percent (mean sum n) r
moved-by_sum sum n r c some priced is =
    let least = lt-mul-div-succ (r + 99) {b = 100} (omega arith) in
    let most = mul-div-le (r + 99) 100 in
    by_bounds (2 * sum + n) ((r + c) * (2 * n)) ((r - c + 1) * (2 * n)) (mean sum n) r c priced (omega arith) (omega arith)
    (le-div_iff_mul-le {k = 2 * n} {x = r + c} {y = 2 * sum + n} (omega arith)) (div-lt_iff_lt-mul {k = 2 * n} {x = 2 * sum + n} {y = r - c + 1} (omega arith))

-- a price a hundredth below and one a hundredth above are so far from each other
pub with_width : (p c k : ℕ) → c ≤ p → 0 < c → (p - c + 1) * k + (2 * c - 1) * k ≡ (p + c) * k
with_width p c k small some = by (p - c + 1) (2 * c - 1) (p + c) (omega (arith, small, some)) where
  by : (a b both : ℕ) → a + b ≡ both → a * k + b * k ≡ both * k
  by a b both is = let sum : (a + b) * k ≡ both * k = ap (λ (n : ℕ). n * k) is in omega (arith, sum)

-- of some deals
pub has_moved-gives : (sum n price r : ℕ) (b : Bool) → price ≡ r → IsPrice price → 0 < n
    → b ≡ (nat_le ((price + (price + 99) / 100) * (2 * n)) (2 * sum + n) || nat_lt (2 * sum + n) ((price - (price + 99) / 100 + 1) * (2 * n)))
    → b ≡ option_map_or (λ m. moved_one_percent m r) (if n == 0 then None else Some (mean sum n)) false
has_moved-gives sum n price r b is range some e =
    e ∙ moved-by_sum sum n price ((price + 99) / 100) some (omega arith) refl
    ∙ ap (λ (p : ℕ). moved_one_percent (mean sum n) p) is
    ∙ (λ i. option_map_or (λ m. moved_one_percent m r) (if some_deals n some i then None else Some (mean sum n)) false)
  where
    some_deals : (n : ℕ) → 0 < n → false ≡ (n == 0)
    some_deals n e = grind (arith, nat_tests)

pub or_first : (a b : ℕ) (other : Bool) → a ≤ b → nat_le a b ≡ (nat_le a b || other)
or_first a b other le = sym (is_at_most a b le) ∙ (λ i. is_at_most a b le i || other)

pub or_second : (a b : ℕ) (other : Bool) → b < a → other ≡ (nat_le a b || other)
or_second a b other lt = λ i. is_above a b lt i || other
