-- A field that was read is in its range and stands at its offset, and one that stands there is read.
use Rattle.std.proofs.Common.{◌≡◌, ℕ, ◌+◌, ◌^◌, ◌<◌, ◌≤◌, Bool, true, cond, List, length, take, drop, Option, Some, None, refl, sym, ap, subst, arith}
use Rattle.std.specs.Prelude.{IfSome, IsTrue, ◌==◌}
use Rattle.std.specs.Int.{w32, w64}
use Rattle.std.proofs.lemmas.Bool.Decides.{nat_tests}
use Rattle.std.proofs.lemmas.List.{length-take, length-drop}
use Rattle.price_core.specs.Absence.{units_or_zero}
use Rattle.price_core.specs.Ranges.{IsPrice, IsIndex}
use Rattle.session_core.specs.Moments.{IsMoment}
use Rattle.wire_core.specs.Fields.{number, checked, is_moment, is_price, is_index, moment_at, price_at, optional_price_at, index_at}
use Rattle.wire_core.specs.Names.{is_name, name_at}
use Rattle.wire_core.proofs.Steps.{checked_some}

pub moment_ok : (at : ℕ) (body : List ℕ) (m : ℕ) → moment_at at body ≡ Some m → (number w64 at body ≡ m) × IsMoment m
unfolding moment_at
moment_ok at body m e = of_number (number w64 at body) m e where
  of_number : (n m : ℕ) → checked (is_moment n) n ≡ Some m → (n ≡ m) × IsMoment m
  of_number n m e = grind (arith, nat_tests)

pub moment_again : (at : ℕ) (body : List ℕ) (m : ℕ) → number w64 at body ≡ m → IsMoment m → moment_at at body ≡ Some m
unfolding moment_at
moment_again at body m e h = subst (λ (n : ℕ). checked (is_moment n) n ≡ Some m) (sym e) (of_number m h) where
  of_number : (n : ℕ) → IsMoment n → checked (is_moment n) n ≡ Some n
  of_number n h = grind (arith, nat_tests)

pub price_ok : (at : ℕ) (body : List ℕ) (p : ℕ) → price_at at body ≡ Some p → (number w64 at body ≡ p) × IsPrice p
unfolding price_at
price_ok at body p e = of_number (number w64 at body) p e where
  of_number : (n p : ℕ) → checked (is_price n) n ≡ Some p → (n ≡ p) × IsPrice p
  of_number n p e = grind (arith, nat_tests)

pub price_again : (at : ℕ) (body : List ℕ) (p : ℕ) → number w64 at body ≡ p → IsPrice p → price_at at body ≡ Some p
unfolding price_at
price_again at body p e h = subst (λ (n : ℕ). checked (is_price n) n ≡ Some p) (sym e) (of_number p h) where
  of_number : (n : ℕ) → IsPrice n → checked (is_price n) n ≡ Some n
  of_number n h = grind (arith, nat_tests)

pub index_ok : (at : ℕ) (body : List ℕ) (v : ℕ) → index_at at body ≡ Some v → (number w32 at body ≡ v) × IsIndex v
unfolding index_at
index_ok at body v e = of_number (number w32 at body) v e where
  of_number : (n v : ℕ) → checked (is_index n) n ≡ Some v → (n ≡ v) × IsIndex v
  of_number n v e = grind (arith, nat_tests)

pub index_again : (at : ℕ) (body : List ℕ) (v : ℕ) → number w32 at body ≡ v → IsIndex v → index_at at body ≡ Some v
unfolding index_at
index_again at body v e h = subst (λ (n : ℕ). checked (is_index n) n ≡ Some v) (sym e) (of_number v h) where
  of_number : (n : ℕ) → IsIndex n → checked (is_index n) n ≡ Some n
  of_number n h = grind (arith, nat_tests)

-- a number read as a price that may be absent
abbrev optional : ℕ → Option (Option ℕ)
optional n = cond (n == 0) (Some None) (checked (is_price n) (Some n))

pub optional_ok : (at : ℕ) (body : List ℕ) (o : Option ℕ) → optional_price_at at body ≡ Some o → (number w64 at body ≡ units_or_zero o) × IfSome o IsPrice
unfolding optional_price_at
optional_ok at body o e = of_number (number w64 at body) o e where
  of_number : (n : ℕ) (o : Option ℕ) → optional n ≡ Some o → (n ≡ units_or_zero o) × IfSome o IsPrice
  of_number n o e = grind (arith, nat_tests)

pub optional_again : (at : ℕ) (body : List ℕ) (o : Option ℕ) → number w64 at body ≡ units_or_zero o → IfSome o IsPrice → optional_price_at at body ≡ Some o
unfolding optional_price_at
optional_again at body o e h = subst (λ (n : ℕ). optional n ≡ Some o) (sym e) (of_option o h) where
  of_option : (o : Option ℕ) → IfSome o IsPrice → optional (units_or_zero o) ≡ Some o
  of_option None h = refl
  of_option (Some n) h = grind (arith, nat_tests)

pub optional_below : (o : Option ℕ) → IfSome o IsPrice → units_or_zero o < 2 ^ 64
optional_below None h = omega arith
optional_below (Some n) h = omega (arith, h.most)

pub name_ok : (at : ℕ) (body name : List ℕ) → name_at at body ≡ Some name → (take 8 (drop at body) ≡ name) × IsTrue (is_name name)
unfolding name_at
name_ok at body name e =
    let c = checked_some (is_name (take 8 (drop at body))) (take 8 (drop at body)) name e in
    (c.1, subst (λ (t : List ℕ). is_name t ≡ true) c.1 c.0)

pub name_again : (at : ℕ) (body name : List ℕ) → take 8 (drop at body) ≡ name → IsTrue (is_name name) → name_at at body ≡ Some name
unfolding name_at
name_again at body name e h =
    subst (λ (t : List ℕ). checked (is_name t) t ≡ Some name) (sym e) (ap (λ (b : Bool). checked b name) h)

pub name_length : (at : ℕ) (body name : List ℕ) → take 8 (drop at body) ≡ name → at + 8 ≤ length body → length name ≡ 8
name_length at body name e h = omega (arith, length-take 8 (drop at body), length-drop at body, ap length e)
