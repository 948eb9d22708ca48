-- The steps on a yard's table keep its rule.
use Rattle.std.proofs.Common.{map, ◌≡◌, ℕ, suc, ◌+◌, ◌%◌, ◌^◌, ◌<◌, ◌≤◌, ◌≢◌, List, [], ◌∷◌, length, get_or, set, sym, refl, ap, ◌∙◌, subst, arith, length-set, get_or-set_other, get_or-set_same, lt_of_not-le, ⊎_elim}
use mathlib.Core.Option.{none, some}
use Rattle.std.proofs.Math.Nat.{mod-eq_of_lt}
use mathlib.Core.Logic.{dite}
use native.Mathlib.Decide.{dec_le, ℕ_discrete}
use lib.ListN.{get_elem?}
use Rattle.std.specs.Prelude.{Option, Some, slice_get}
use Rattle.std.specs.Int.{bit_at}
use Rattle.atomic_table.specs.Table.{State, Me, step, Act, keeps, takes, Valid, stepped, carried_after, Allows}
use Rattle.atomic_table.proofs.Lists.{at_set, set_else}
use Rattle.yard_core.specs.declared.view.SeatView.{SeatView}
use Rattle.yard_core.specs.Sums.{total, times}
use Rattle.yard_core.specs.Views.{with_piece, with_done, claims_of, gifts_of, pieces_of, drawn, answers, stands_for, Fits}
use Rattle.yard_core.specs.YardState.{AtHome, claimed_below, YardState}
use Rattle.yard_core.specs.Steps.{Claims}
use Rattle.yard_core.proofs.Sums.{total_le, total-add, set_term_le, set_same, set_more, times_here, times_else}

module _ {J O : Type 0} (place : J → ℕ) (origin : J → O) (result : J → Type 0) (asked : ℕ) (origins : List O) where
  abbrev St : Type 0
  St = State (Option J) (SeatView J)

  abbrev Rule : St → Type 0
  Rule s = YardState place origin result asked origins s

  -- the number of claims is far from the word's end
  pub few_claims : (s : St) → Rule s → get_or s.words 0 0 ≤ 128
  few_claims s r =
      let le : total answers s.views ≤ total stands_for s.views = total_le answers stands_for s.views (λ j v at. (r.each j v at).done_le) in
      omega (arith, r.claims, r.count, r.seats, r.few_jobs, r.few_seats)

  pub fits_set : (s : St) → Rule s → (id : ℕ) (w : SeatView J) → Fits origin asked origins w → (j : ℕ) (u : SeatView J) → get_elem? (set s.views id w) j ≡ some u → Fits origin asked origins u
  fits_set s r id w fits j u at = ⊎_elim (λ e. subst (λ x. Fits origin asked origins x) e.1 fits) (λ e. r.each j u e.1) (at_set s.views id j w u at)

  abbrev SeatState : Type 0
  SeatState = Me (Option J) (SeatView J)

  abbrev Goes : St → ℕ → ℕ → SeatState → ℕ → (ℕ → SeatState → Type 0) → Type 0
  Goes s i id me new then = (w : SeatView J) × (a : Act (Option J)) × Valid s.homes me.1 a × Rule (stepped s i new id me.1 w a) × then (get_or s.words i 0) (w, carried_after me.1 a)

  -- the claim of the piece x, which lies at home
  module _ (s : St) (r : Rule s) (id : ℕ) (v : SeatView J) (at : get_elem? s.views id ≡ some v) (some_seat : 0 < v.seats) (below : get_or s.words 0 0 < length origins) where
    abbrev x : ℕ
    x = get_or s.words 0 0

    abbrev w : SeatView J
    w = with_piece v x

    abbrev s' : St
    s' = record { words = set s.words 0 (x + 1); homes = set s.homes x none; views = set s.views id w }

    new_fits : Fits origin asked origins w
    new_fits = let old = r.each id v at in record { done_le = old.done_le; idle = λ empty. absurd (omega arith); same = old.same }

    word : get_or (set s.words 0 (x + 1)) 0 0 ≡ x + 1
    word = get_or-set_same s.words 0 (x + 1) 0 (omega (arith, r.words))

    bound : claimed_below origins s' ≡ x + 1
    bound = omega (arith, word)

    more_pieces : total (pieces_of x) (set s.views id w) ≡ 1
    more_pieces =
        let never : total (pieces_of x) s.views ≡ 0 = r.never x (omega arith) in
        let more : total (pieces_of x) (set s.views id w) ≡ suc (total (pieces_of x) s.views) = set_more (pieces_of x) s.views id v w at (omega (arith, times_here x v.claimed)) in
        omega arith

    same_pieces : (k : ℕ) → k ≢ x → total (pieces_of k) (set s.views id w) ≡ total (pieces_of k) s.views
    same_pieces k ne = set_same (pieces_of k) s.views id v w at (omega (arith, times_else k x v.claimed (λ e. ne (sym e))))

    new_homes : (k : ℕ) → k < length origins → total (claims_of k) (set s.views id w) ≡ 0 → AtHome place origin result asked origins s' k
    new_homes k near free =
        let ne : k ≢ x = λ e.
        let here : times x (x ∷ v.claimed) ≤ total (claims_of x) (set s.views id w) = set_term_le (claims_of x) s.views id v w at in
        omega (arith, times_here x v.claimed, ap (λ (j : ℕ). total (claims_of j) (set s.views id w)) e) in
        let same : total (claims_of k) (set s.views id w) ≡ total (claims_of k) s.views = set_same (claims_of k) s.views id v w at (times_else k x v.claimed (λ e. ne (sym e))) in
        let gifts : total (gifts_of k) (set s.views id w) ≡ total (gifts_of k) s.views = set_same (gifts_of k) s.views id v w at refl in
        let home = r.homes k near (omega arith) in
        (home.0, set_else s.homes x k none ne ∙ home.1, home.2, λ some_gift. home.3 (omega arith))

    new_kept : Rule s'
    new_kept = record {
      words = length-set s.words 0 (x + 1) ∙ r.words;
      slots = length-set s.homes x none ∙ r.slots;
      few_jobs = r.few_jobs;
      few_seats = r.few_seats;
      claims =
          let more : total drawn (set s.views id w) ≡ suc (total drawn s.views) = set_more drawn s.views id v w at (omega arith) in
          let same : total answers (set s.views id w) ≡ total answers s.views = set_same answers s.views id v w at refl in
          omega (arith, word, r.claims);
      count =
          let more : total drawn (set s.views id w) ≡ suc (total drawn s.views) = set_more drawn s.views id v w at (omega arith) in
          omega (arith, bound, r.count);
      once = λ k less. dite (ℕ_discrete k x) (λ e. subst (λ j. total (pieces_of j) (set s.views id w) ≡ 1) (sym e) more_pieces) (λ ne. same_pieces k ne ∙ r.once k (omega (arith, bound)));
      never = λ k less. let ne : k ≢ x = λ e. omega (arith, bound) in same_pieces k ne ∙ r.never k (omega (arith, bound));
      bits = λ k. ap (λ n. bit_at n k) (get_or-set_other s.words 0 1 (x + 1) 0 (λ e. omega arith)) ∙ (r.bits k ∙ sym (set_same (gifts_of k) s.views id v w at refl));
      homes = new_homes;
      seats = set_same stands_for s.views id v w at refl ∙ r.seats;
      each = fits_set s r id w new_fits;
    }

    home_of : AtHome place origin result asked origins s x
    home_of =
        let never : total (pieces_of x) s.views ≡ 0 = r.never x (omega arith) in
        r.homes x below (omega (arith, total-add (claims_of x) (gifts_of x) s.views))

    claims_piece : (n : ℕ) → length s.homes ≡ n → Goes s 0 id (v, []) (x + 1) (Claims place origin (step n 0 1 0 none) (v, []))
    claims_piece n wide =
        let home = home_of in
        let jobs : length s.homes ≡ length origins = r.slots in
        let few : drawn w ≤ n =
        (let le : drawn w ≤ total drawn (set s.views id w) = set_term_le drawn s.views id v w at in
        let more : total drawn (set s.views id w) ≡ suc (total drawn s.views) = set_more drawn s.views id v w at (omega arith) in
        omega (arith, r.count)) in
        let its : slice_get (map origin v.jobs) x ≡ Some (origin home.0) = subst (λ os. slice_get os x ≡ Some (origin home.0)) (sym ((r.each id v at).same some_seat).1) home.2.1 in (
          w,
          takes x (Some home.0),
          home.1,
          new_kept,
          ((λ _. (home.0, refl, (home.2.0, its), few)), λ ge. absurd (omega arith)),
        )

  claims_done : (s : St) (r : Rule s) (id : ℕ) (v : SeatView J) → get_elem? s.views id ≡ some v → 0 < v.seats → v.done ≡ 0 → length origins ≤ get_or s.words 0 0
      → (n : ℕ) → length s.homes ≡ n → Goes s 0 id (v, []) (get_or s.words 0 0 + 1) (Claims place origin (step n 0 1 0 none) (v, []))
  claims_done s r id v at some_seat first above n wide =
      let x : ℕ = get_or s.words 0 0 in
      let w : SeatView J = with_done v in
      let old = r.each id v at in
      let jobs : length s.homes ≡ length origins = r.slots in
      let word : get_or (set s.words 0 (x + 1)) 0 0 ≡ x + 1 = get_or-set_same s.words 0 (x + 1) 0 (omega (arith, r.words)) in
      let same = λ (f : SeatView J → ℕ) (e : f w ≡ f v). set_same f s.views id v w at e in (
        w,
        keeps,
        tt,
        record {
          words = length-set s.words 0 (x + 1) ∙ r.words;
          slots = r.slots;
          few_jobs = r.few_jobs;
          few_seats = r.few_seats;
          claims =
              let more : total answers (set s.views id w) ≡ suc (total answers s.views) = set_more answers s.views id v w at (omega arith) in
              omega (arith, word, r.claims, same drawn refl);
          count = omega (arith, word, r.count, same drawn refl);
          once = λ k less. same (pieces_of k) refl ∙ r.once k (omega (arith, word));
          never = λ k less. same (pieces_of k) refl ∙ r.never k (omega (arith, word));
          bits = λ k. ap (λ n. bit_at n k) (get_or-set_other s.words 0 1 (x + 1) 0 (λ e. omega arith)) ∙ (r.bits k ∙ sym (same (gifts_of k) refl));
          homes = λ k near free.
              let home = r.homes k near (omega (arith, same (claims_of k) refl)) in
              (home.0, home.1, home.2, λ some_gift. home.3 (omega (arith, same (gifts_of k) refl)));
          seats = same stands_for refl ∙ r.seats;
          each = fits_set s r id w record { done_le = omega arith; idle = λ empty. absurd (omega arith); same = old.same };
        },
        ((λ lt. absurd (omega arith)), λ _. refl),
      )

  pub claims : (n id : ℕ) (v : SeatView J) → 0 < v.seats → v.done ≡ 0 → Allows Rule n id (v, []) 0 (λ x. (x + 1) % 2 ^ 64) (Claims place origin (step n 0 1 0 none) (v, []))
  claims n id v some_seat first s r wide at lt =
      let x : ℕ = get_or s.words 0 0 in
      let small : x ≤ 128 = few_claims s r in
      let fits : (x + 1) % 2 ^ 64 ≡ x + 1 = mod-eq_of_lt (omega arith) in
      subst (λ y. Goes s 0 id (v, []) y (Claims place origin (step n 0 1 0 none) (v, []))) (sym fits)
      (dite (dec_le (length origins) x) (λ above. claims_done s r id v at some_seat first above n wide) (λ no. claims_piece s r id v at some_seat (lt_of_not-le no) n wide))

  pub seat_claims : (n id : ℕ) (me : SeatState) → 0 < me.0.seats → me.0.done ≡ 0 → me.1 ≡ [] → Allows Rule n id me 0 (λ x. (x + 1) % 2 ^ 64) (Claims place origin (step n 0 1 0 none) me)
  seat_claims n id me some_seat first empty = subst (λ (hand : List (ℕ × Option J)). Allows Rule n id (me.0, hand) 0 (λ x. (x + 1) % 2 ^ 64) (Claims place origin (step n 0 1 0 none) (me.0, hand))) (sym empty) (claims n id me.0 some_seat first)
