-- Deals that are live, and deals that are cancelled.
use Rattle.std.proofs.Common.{◌≡◌, ℕ, ◌≤◌, Bool, true, false, List, [], ◌∷◌, ◌++◌, refl, ap, ◌∙◌, arith}
use Rattle.std.specs.Prelude.{filter, cond, ◌==◌, ◌||◌, if◌then◌else◌}
use Rattle.std.specs.List.{list_any}
use Rattle.std.proofs.lemmas.Bool.Decides.{nat_tests}
use Rattle.std.proofs.lemmas.List.Elements.{filter-append}
use Rattle.std.proofs.lemmas.List.{append-nil}
use Rattle.std.proofs.lemmas.List.Folds.{list_any-append}
use Rattle.window_core.specs.declared.window.Deal.{Deal}
use Rattle.window_core.specs.Deals.{is_live, live, stays}
use Rattle.window_core.specs.Calls.{Call, Advance, Add, Cancel, Restart, deals_in}

-- what is live later is live before
live_before : (t u : ℕ) → t ≤ u → (d : Deal) (a b : Bool) → is_live t d ≡ a → is_live u d ≡ b → (xs ys : List Deal) → live u xs ≡ ys
    → live u (cond a (d ∷ xs) xs) ≡ cond b (d ∷ ys) ys
live_before t u le d true b is was xs ys e = simp was (ap (λ (zs : List Deal). cond b (d ∷ zs) zs) e)
live_before t u le d false false is was xs ys e = e
live_before t u le d false true is was xs ys e = absurd (grind (arith, nat_tests))

pub live-live : (t u : ℕ) → t ≤ u → (deals : List Deal) → live u (live t deals) ≡ live u deals
live-live t u le [] = refl
live-live t u le (d ∷ deals) = live_before t u le d (is_live t d) (is_live u d) refl refl (live t deals) (live u deals) (live-live t u le deals)

swap_one : (p q : Deal → Bool) (d : Deal) (xs ys : List Deal) (a b : Bool) → p d ≡ a → q d ≡ b → filter p xs ≡ filter q ys
    → filter p (cond b (d ∷ xs) xs) ≡ filter q (cond a (d ∷ ys) ys)
swap_one p q d xs ys true true e f h = simp (e, f) (ap (λ (zs : List Deal). d ∷ zs) h)
swap_one p q d xs ys true false e f h = simp f h
swap_one p q d xs ys false true e f h = simp e h
swap_one p q d xs ys false false e f h = h

-- two tests in either order
pub filter_swap : (p q : Deal → Bool) (deals : List Deal) → filter p (filter q deals) ≡ filter q (filter p deals)
filter_swap p q [] = refl
filter_swap p q (d ∷ deals) = swap_one p q d (filter q deals) (filter p deals) (p d) (q d) refl refl (filter_swap p q deals)

-- an added deal, with one more cancel of those that came later
added : (number : ℕ) (d : Deal) (xs ys : List Deal) (a b : Bool) → (d.number == number) ≡ b → xs ≡ filter (stays number) ys
    → (if a || (b || false) then xs else xs ++ d ∷ []) ≡ filter (stays number) (if a then ys else ys ++ d ∷ [])
added number d xs ys true b is e = e
added number d xs ys false true is e = simp (filter-append, is, append-nil) e
added number d xs ys false false is e = simp (filter-append, is) (ap (λ (zs : List Deal). zs ++ d ∷ []) e)

-- one more cancel, which came last
pub deals-cancelled : (number : ℕ) (cancelled : List ℕ) (calls : List Call) → deals_in (cancelled ++ number ∷ []) calls ≡ filter (stays number) (deals_in cancelled calls)
deals-cancelled number cancelled [] = refl
deals-cancelled number cancelled (Advance t ∷ calls) = deals-cancelled number cancelled calls
deals-cancelled number cancelled (Add d ∷ calls) =
    rw (list_any-append (λ n. d.number == n) cancelled (number ∷ [])) (added number d _ _ (list_any (λ n. d.number == n) cancelled) (d.number == number) refl (deals-cancelled number cancelled calls))
deals-cancelled number cancelled (Cancel n ∷ calls) = deals-cancelled number (n ∷ cancelled) calls
deals-cancelled number cancelled (Restart ∷ calls) = refl

-- a cancel over the calls
pub live-cancelled : (t number : ℕ) (calls : List Call) → live t (deals_in (number ∷ []) calls) ≡ filter (stays number) (live t (deals_in [] calls))
live-cancelled t number calls = ap (live t) (deals-cancelled number [] calls) ∙ filter_swap (is_live t) (stays number) (deals_in [] calls)
