-- What the rule of a yard says of all its seats.
use Rattle.std.proofs.Common.{◌≡◌, ℕ, zero, suc, ◌+◌, ◌<◌, ◌≤◌, ◌≢◌, List, [], ◌∷◌, length, sym, ap, arith, lt_of_not-le}
use mathlib.Core.Option.{some, some-injective, some-ne-none}
use mathlib.Core.Logic.{dite}
use native.Mathlib.Decide.{dec_le, ℕ_discrete}
use lib.ListN.{get_elem?}
use Rattle.std.specs.Prelude.{Option}
use Rattle.atomic_table.specs.Table.{State}
use Rattle.yard_core.specs.declared.view.SeatView.{SeatView}
use Rattle.yard_core.specs.Sums.{total}
use Rattle.yard_core.specs.Views.{pieces_of, answers}
use Rattle.yard_core.specs.YardState.{claimed_below, YardState}
use Rattle.yard_core.proofs.Sums.{term_le}

terms_le : {A : Type 0} (g : A → ℕ) (l : List A) (i j : ℕ) (v w : A) → j ≢ i → get_elem? l i ≡ some v → get_elem? l j ≡ some w → g v + g w ≤ total g l
terms_le g [] i j v w ne e d = absurd (some-ne-none v (sym e))
terms_le g (x ∷ xs) zero zero v w ne e d = absurd (omega arith)
terms_le g (x ∷ xs) zero (suc j) v w ne e d = omega (arith, ap g (some-injective x v e), term_le g xs j w d)
terms_le g (x ∷ xs) (suc i) zero v w ne e d = omega (arith, ap g (some-injective x w d), term_le g xs i v e)
terms_le g (x ∷ xs) (suc i) (suc j) v w ne e d = omega (arith, terms_le g xs i j v w (λ h. ne (ap suc h)) e d)

module _ {J O : Type 0} (place : J → ℕ) (origin : J → O) (result : J → Type 0) (asked : ℕ) (origins : List O) (s : State (Option J) (SeatView J)) (r : YardState place origin result asked origins s) where
  -- no piece was claimed twice
  pub at_most_one : (k : ℕ) → total (pieces_of k) s.views ≤ 1
  at_most_one k = dite (dec_le (claimed_below origins s) k) (λ past. omega (arith, r.never k past)) (λ no. omega (arith, r.once k (lt_of_not-le no)))

  -- no two seats have one piece
  pub apart : (i j k : ℕ) (v w : SeatView J) → get_elem? s.views i ≡ some v → get_elem? s.views j ≡ some w → 0 < pieces_of k v → 0 < pieces_of k w → j ≡ i
  apart i j k v w e d mine its = dite (ℕ_discrete j i) (λ same. same) (λ ne. absurd (omega (arith, terms_le (pieces_of k) s.views i j v w ne e d, at_most_one k)))

  -- where a seat has answered Done, each piece is with a seat
  pub all_claimed : (i k : ℕ) (v : SeatView J) → get_elem? s.views i ≡ some v → 0 < v.done → k < length origins → total (pieces_of k) s.views ≡ 1
  all_claimed i k v e done near =
      let some_done : v.done ≤ total answers s.views = term_le answers s.views i v e in
      r.once k (omega (arith, r.claims, r.count))
