-- What the rule of a yard says once one seat stands for all seats, each of which has answered Done.
use Rattle.std.proofs.Common.{◌≡◌, ℕ, ◌<◌, List, [], length, get_or, set, sym, refl, ap, ◌∙◌, subst, arith, length-set, get_or-set_other, get_or-set_same}
use mathlib.Core.Option.{none, some}
use lib.ListN.{get_elem?}
use Rattle.std.specs.Prelude.{Option, Some}
use Rattle.atomic_table.specs.Table.{State, Me, step, keeps, Allows, Final, Seen}
use Rattle.atomic_table.proofs.Lists.{set_again}
use Rattle.yard_core.specs.declared.view.SeatView.{SeatView}
use Rattle.yard_core.specs.Sums.{total, times}
use Rattle.yard_core.specs.Views.{spent, claims_of, gifts_of, pieces_of, drawn, answers, stands_for, IsLast}
use Rattle.yard_core.specs.YardState.{HasPlace, claimed_below, YardState}
use Rattle.yard_core.specs.Steps.{Counts}
use Rattle.yard_core.proofs.Sums.{total-add, total-one}
use Rattle.yard_core.proofs.SeatSteps.{kept_same}

module _ {J O : Type 0} (place : J → ℕ) (origin : J → O) (result : J → Type 0) (asked : ℕ) (origins : List O) where
  abbrev St : Type 0
  St = State (Option J) (SeatView J)

  abbrev Rule : St → Type 0
  Rule s = YardState place origin result asked origins s

  module _ (s : St) (r : Rule s) (id : ℕ) (v : SeatView J) (at : get_elem? s.views id ≡ some v) (last : IsLast v) where
    alone : (f : SeatView J → ℕ) → f spent ≡ 0 → total f s.views ≡ f v
    alone f zero_of = total-one stands_for f s.views id v at (r.seats ∙ (sym ((r.each id v at).same last.some_seat).0 ∙ sym last.all)) (λ j u there empty. ap f ((r.each j u there).idle empty) ∙ zero_of)

    pub all_given : (k : ℕ) → k < length origins → (total (claims_of k) s.views ≡ 0) × (total (gifts_of k) s.views ≡ 1)
    all_given k near =
        let answers_are : total answers s.views ≡ v.done = alone answers refl in
        let claimed : total (claims_of k) s.views ≡ 0 = alone (claims_of k) refl ∙ ap (times k) last.none in
        let below : k < claimed_below origins s = omega (arith, r.claims, r.count, last.done, last.some_seat) in
        let single : total (pieces_of k) s.views ≡ 1 = r.once k below in
        (claimed, omega (arith, total-add (claims_of k) (gifts_of k) s.views))

  pub counts : (n id : ℕ) (v : SeatView J) → IsLast v → Allows Rule n id (v, []) 1 (λ x. x) (Counts (step n 1 0 0 none) (v, []))
  counts n id v last s r wide at lt =
      let same : set s.views id v ≡ s.views = set_again s.views id v at in
      let jobs : length s.homes ≡ length origins = r.slots in
      let long : 1 < length s.words = omega (arith, r.words) in (
        v,
        keeps,
        tt,
        kept_same place origin result asked origins s r (set s.words 1 (get_or s.words 1 0)) (set s.views id v) (length-set s.words 1 (get_or s.words 1 0)) (get_or-set_other s.words 1 0 (get_or s.words 1 0) 0 (λ e. omega arith)) (get_or-set_same s.words 1 (get_or s.words 1 0) 0 long)
            record { claims = λ k. ap (total (claims_of k)) same; gifts = λ k. ap (total (gifts_of k)) same; drawn_is = ap (total drawn) same; answers_are = ap (total answers) same; seats = ap (total stands_for) same }
            (λ j u there. r.each j u (subst (λ vs. get_elem? vs j ≡ some u) same there)),
        (refl, λ k near. r.bits k ∙ (all_given s r id v at last k (omega arith)).1),
      )

  -- each slot has its job, worked
  pub closes : (ws : List ℕ) (xs : List (Option J)) (id : ℕ) (v : SeatView J) → IsLast v → Final (Seen Rule id v) ws xs
      → (length xs ≡ length origins) × ((k : ℕ) → k < length origins → (job : J) × (get_elem? xs k ≡ some (Some job)) × HasPlace place origin origins k job × result job)
  closes ws xs id v last end =
      let s : St = end.0 in
      let r = end.1.0 in (
        sym end.3 ∙ r.slots,
        λ k near.
            let given = all_given s r id v end.1.1 last k near in
            let home = r.homes k near given.0 in
            (home.0, end.4 k (Some home.0) home.1, home.2, home.3 (omega (arith, given.1))),
      )

  pub seat_counts : (n id : ℕ) (me : Me (Option J) (SeatView J)) → me.1 ≡ [] → IsLast me.0 → Allows Rule n id me 1 (λ x. x) (Counts (step n 1 0 0 none) me)
  seat_counts n id me empty last = subst (λ (hand : List (ℕ × Option J)). Allows Rule n id (me.0, hand) 1 (λ x. x) (Counts (step n 1 0 0 none) (me.0, hand))) (sym empty) (counts n id me.0 last)
