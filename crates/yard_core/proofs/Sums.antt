-- Sums over views that change at one place.
use Rattle.std.proofs.Common.{◌≡◌, ℕ, zero, suc, ◌+◌, ◌≤◌, ◌≢◌, List, [], ◌∷◌, ◌++◌, set, sym, refl, ap, cond, eqb, eq-eqb, ne_eqb, arith}
use mathlib.Core.Option.{some, some-injective, some-ne-none}
use lib.ListN.{get_elem?}
use Rattle.yard_core.specs.Sums.{total, times}

module _ {A : Type 0} (g : A → ℕ) where
  pub total-append : (l m : List A) → total g (l ++ m) ≡ total g l + total g m
  total-append [] m = omega arith
  total-append (x ∷ xs) m = omega (arith, total-append xs m)

  pub total-set : (l : List A) (j : ℕ) (v w : A) → get_elem? l j ≡ some v → total g (set l j w) + g v ≡ total g l + g w
  total-set [] j v w e = absurd (some-ne-none v (sym e))
  total-set (x ∷ xs) zero v w e = omega (arith, ap g (some-injective x v e))
  total-set (x ∷ xs) (suc j) v w e = omega (arith, total-set xs j v w e)

  pub term_le : (l : List A) (j : ℕ) (v : A) → get_elem? l j ≡ some v → g v ≤ total g l
  term_le [] j v e = absurd (some-ne-none v (sym e))
  term_le (x ∷ xs) zero v e = omega (arith, ap g (some-injective x v e))
  term_le (x ∷ xs) (suc j) v e = omega (arith, term_le xs j v e)

  -- a sum of terms none of which exceeds its other
  pub total_le : (h : A → ℕ) (l : List A) → ((j : ℕ) (v : A) → get_elem? l j ≡ some v → g v ≤ h v) → total g l ≤ total h l
  total_le h [] le = omega arith
  total_le h (x ∷ xs) le = let here : g x ≤ h x = le 0 x refl in omega (arith, total_le h xs (λ j v e. le (suc j) v e))

pub set_term_le : {A : Type 0} (g : A → ℕ) (l : List A) (j : ℕ) (v w : A) → get_elem? l j ≡ some v → g w ≤ total g (set l j w)
set_term_le g l j v w e = let le : g v ≤ total g l = term_le g l j v e in let change : total g (set l j w) + g v ≡ total g l + g w = total-set g l j v w e in omega arith

-- a change of one view that keeps its term keeps the sum
pub set_same : {A : Type 0} (g : A → ℕ) (l : List A) (j : ℕ) (v w : A) → get_elem? l j ≡ some v → g w ≡ g v → total g (set l j w) ≡ total g l
set_same g l j v w e same = let change : total g (set l j w) + g v ≡ total g l + g w = total-set g l j v w e in omega arith

pub set_more : {A : Type 0} (g : A → ℕ) (l : List A) (j : ℕ) (v w : A) → get_elem? l j ≡ some v → g w ≡ suc (g v) → total g (set l j w) ≡ suc (total g l)
set_more g l j v w e more = let change : total g (set l j w) + g v ≡ total g l + g w = total-set g l j v w e in omega arith

pub total-zero : {A : Type 0} (g : A → ℕ) (l : List A) → ((j : ℕ) (v : A) → get_elem? l j ≡ some v → g v ≡ 0) → total g l ≡ 0
total-zero g [] none = refl
total-zero g (x ∷ xs) none = let here : g x ≡ 0 = none 0 x refl in omega (arith, total-zero g xs (λ j v e. none (suc j) v e))

pub total-add : {A : Type 0} (g h : A → ℕ) (l : List A) → total (λ x. g x + h x) l ≡ total g l + total h l
total-add g h [] = refl
total-add g h (x ∷ xs) = omega (arith, total-add g h xs)

-- where one term is the whole sum, each other term is 0
pub total-one : {A : Type 0} (g h : A → ℕ) (l : List A) (j : ℕ) (v : A) → get_elem? l j ≡ some v → total g l ≡ g v → ((i : ℕ) (w : A) → get_elem? l i ≡ some w → g w ≡ 0 → h w ≡ 0) → total h l ≡ h v
total-one g h [] j v e all idle = absurd (some-ne-none v (sym e))
total-one g h (x ∷ xs) zero v e all idle =
    let same : x ≡ v = some-injective x v e in
    let others : total g xs ≡ 0 = omega (arith, ap g same) in
    let none : total h xs ≡ 0 = total-zero h xs (λ i w at. idle (suc i) w at (let le : g w ≤ total g xs = term_le g xs i w at in omega arith)) in
    omega (arith, ap h same)
total-one g h (x ∷ xs) (suc j) v e all idle =
    let le : g v ≤ total g xs = term_le g xs j v e in
    let here : h x ≡ 0 = idle 0 x refl (omega arith) in
    omega (arith, total-one g h xs j v e (omega arith) (λ i w at. idle (suc i) w at))

pub times_here : (k : ℕ) (xs : List ℕ) → times k (k ∷ xs) ≡ suc (times k xs)
times_here k xs = let e : cond {A = ℕ} (eqb k k) 1 0 ≡ 1 = ap (λ b. cond {A = ℕ} b 1 0) (eq-eqb k k refl) in omega (arith, e)

pub times_else : (j k : ℕ) (xs : List ℕ) → k ≢ j → times j (k ∷ xs) ≡ times j xs
times_else j k xs ne = let e : cond {A = ℕ} (eqb k j) 1 0 ≡ 0 = ap (λ b. cond {A = ℕ} b 1 0) (ne_eqb k j ne) in omega (arith, e)

pub times-append : (k : ℕ) (xs ys : List ℕ) → times k (xs ++ ys) ≡ times k xs + times k ys
times-append k xs ys = total-append (λ (x : ℕ). cond {A = ℕ} (eqb x k) 1 0) xs ys
