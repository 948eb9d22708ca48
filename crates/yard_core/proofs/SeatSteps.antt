-- Steps that cut a view in two, join two views or change nothing keep the rule of a yard.
use Rattle.std.proofs.Common.{◌≡◌, ℕ, ◌+◌, ◌<◌, List, [], ◌∷◌, ◌++◌, length, get_or, set, sym, refl, ap, ◌∙◌, subst, arith, length-append, ⊎_elim}
use mathlib.Core.Option.{some}
use lib.ListN.{get_elem?}
use Rattle.std.specs.Prelude.{Option}
use Rattle.std.specs.Int.{bit_at}
use Rattle.atomic_table.specs.Table.{State, Splits, Joins}
use Rattle.atomic_table.proofs.Lists.{at_set, at_snoc}
use Rattle.yard_core.specs.declared.view.SeatView.{SeatView}
use Rattle.yard_core.specs.Sums.{total}
use Rattle.yard_core.specs.Views.{spent, joined, claims_of, gifts_of, drawn, answers, stands_for, Fits, left_view, right_view}
use Rattle.yard_core.specs.YardState.{YardState}
use Rattle.yard_core.proofs.Sums.{total-append, total-set, total-add, times-append}

module _ {J O : Type 0} (place : J → ℕ) (origin : J → O) (result : J → Type 0) (asked : ℕ) (origins : List O) where
  abbrev St : Type 0
  St = State (Option J) (SeatView J)

  abbrev Rule : St → Type 0
  Rule s = YardState place origin result asked origins s

  -- the sums that the rule speaks of are the same
  pub record Same (views views' : List (SeatView J)) : Type 0 where
    pub claims : (k : ℕ) → total (claims_of k) views' ≡ total (claims_of k) views
    pub gifts : (k : ℕ) → total (gifts_of k) views' ≡ total (gifts_of k) views
    pub drawn_is : total drawn views' ≡ total drawn views
    pub answers_are : total answers views' ≡ total answers views
    pub seats : total stands_for views' ≡ total stands_for views

  pub kept_same : (s : St) (r : Rule s) (words' : List ℕ) (views' : List (SeatView J)) → length words' ≡ length s.words → get_or words' 0 0 ≡ get_or s.words 0 0 → get_or words' 1 0 ≡ get_or s.words 1 0
      → Same s.views views' → ((id : ℕ) (v : SeatView J) → get_elem? views' id ≡ some v → Fits origin asked origins v) → Rule record { words = words'; homes = s.homes; views = views' }
  kept_same s r words' views' long word_0 word_1 same each =
      let pieces = λ (k : ℕ). total-add (claims_of k) (gifts_of k) views' ∙ (λ i. same.claims k i + same.gifts k i) ∙ sym (total-add (claims_of k) (gifts_of k) s.views) in
      record {
        words = long ∙ r.words;
        slots = r.slots;
        few_jobs = r.few_jobs;
        few_seats = r.few_seats;
        claims = omega (arith, r.claims, same.drawn_is, same.answers_are);
        count = omega (arith, r.count, same.drawn_is);
        once = λ k less. pieces k ∙ r.once k (omega arith);
        never = λ k less. pieces k ∙ r.never k (omega arith);
        bits = λ k. ap (λ n. bit_at n k) word_1 ∙ (r.bits k ∙ sym (same.gifts k));
        homes = λ k near free.
            let home = r.homes k near (omega (arith, same.claims k)) in
            (home.0, home.1, home.2, λ some_gift. home.3 (omega (arith, same.gifts k)));
        seats = same.seats ∙ r.seats;
        each = each;
      }

  split_same : (f : SeatView J → ℕ) (views : List (SeatView J)) (id : ℕ) (v a b : SeatView J) → get_elem? views id ≡ some v → f a + f b ≡ f v → total f (set views id a ++ b ∷ []) ≡ total f views
  split_same f views id v a b at parts = omega (arith, total-append f (set views id a) (b ∷ []), total-set f views id v a at)

  pub splits : (id : ℕ) (v : SeatView J) → 1 < v.seats → v.done ≡ 0 → Splits Rule id v (left_view v) (right_view v)
  splits id v two fresh s r at =
      let a : SeatView J = left_view v in
      let b : SeatView J = right_view v in
      let old = r.each id v at in
      let a_fits : Fits origin asked origins a = record { done_le = omega arith; idle = λ empty. absurd (omega arith); same = λ _. old.same (omega arith) } in
      let b_fits : Fits origin asked origins b = record { done_le = omega arith; idle = λ empty. absurd (omega arith); same = λ _. old.same (omega arith) } in
      kept_same s r s.words (set s.views id a ++ b ∷ []) refl refl refl
      record {
        claims = λ k. split_same (claims_of k) s.views id v a b at (omega arith);
        gifts = λ k. split_same (gifts_of k) s.views id v a b at (omega arith);
        drawn_is = split_same drawn s.views id v a b at (omega arith);
        answers_are = split_same answers s.views id v a b at (omega arith);
        seats = split_same stands_for s.views id v a b at (omega arith);
      }
      (λ j u there. ⊎_elim
      (λ e. ⊎_elim (λ d. subst (λ x. Fits origin asked origins x) d.1 a_fits) (λ d. r.each j u d.1) (at_set s.views id j a u e))
      (λ e. subst (λ x. Fits origin asked origins x) e b_fits)
      (at_snoc (set s.views id a) b u j there))

  join_same : (f : SeatView J → ℕ) (views : List (SeatView J)) (id other : ℕ) (v w both : SeatView J) → get_elem? views id ≡ some v → get_elem? (set views id both) other ≡ some w → f both ≡ f v + f w → f spent ≡ 0
      → total f (set (set views id both) other spent) ≡ total f views
  join_same f views id other v w both at there sum zero_of = omega (arith, total-set f views id v both at, total-set f (set views id both) other w spent there)

  pub joins : (id other : ℕ) (v w : SeatView J) → 0 < v.seats → Joins Rule id v other w (joined v w) spent
  joins id other v w some_seat s r at apart there =
      let both : SeatView J = joined v w in
      let mine = r.each id v at in
      let its : Fits origin asked origins w = ⊎_elim (λ e. absurd (apart e.0)) (λ e. r.each other w e.1) (at_set s.views id other both w there) in
      let both_fit : Fits origin asked origins both = record { done_le = (let p = mine.done_le in let q = its.done_le in omega arith); idle = λ empty. absurd (omega arith); same = λ _. mine.same some_seat } in
      let spent_fits : Fits origin asked origins spent = record { done_le = omega arith; idle = λ _. refl; same = λ some. absurd (omega arith) } in
      kept_same s r s.words (set (set s.views id both) other spent) refl refl refl
      record {
        claims = λ k. join_same (claims_of k) s.views id other v w both at there (times-append k v.claimed w.claimed) refl;
        gifts = λ k. join_same (gifts_of k) s.views id other v w both at there (times-append k v.given w.given) refl;
        drawn_is = join_same drawn s.views id other v w both at there (omega (arith, length-append v.claimed w.claimed, length-append v.given w.given)) refl;
        answers_are = join_same answers s.views id other v w both at there refl refl;
        seats = join_same stands_for s.views id other v w both at there refl refl;
      }
      (λ j u here. ⊎_elim
      (λ e. subst (λ x. Fits origin asked origins x) e.1 spent_fits)
      (λ e. ⊎_elim (λ d. subst (λ x. Fits origin asked origins x) d.1 both_fit) (λ d. r.each j u d.1) (at_set s.views id j both u e.1))
      (at_set (set s.views id both) other j spent u here))
