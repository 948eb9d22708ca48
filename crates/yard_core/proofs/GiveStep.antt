-- The step by which a piece is given keeps the rule of a yard.
use Rattle.std.proofs.Common.{map, ◌≡◌, ℕ, ◌+◌, ◌*◌, ◌%◌, ◌^◌, ◌<◌, ◌≤◌, ◌≢◌, max, List, [], ◌∷◌, length, get_or, set, sym, refl, ap, ◌∙◌, subst, arith, length-set, length-append, get_or-set_other, get_or-set_same, lt_of_not-le, ⊎_elim}
use mathlib.Core.Option.{none, some}
use Rattle.std.proofs.Math.Nat.{mod-eq_of_lt, one-mul}
use Rattle.std.proofs.Math.Pow.{pow-lt}
use mathlib.Core.Logic.{dite}
use native.Mathlib.Decide.{dec_le, ℕ_discrete}
use lib.ListN.{get_elem?}
use Rattle.std.specs.Prelude.{Option, Some, slice_get}
use Rattle.std.specs.Int.{bit_at}
use Rattle.std.specs.Prelude.{bit_or}
use Rattle.std.proofs.lemmas.Nat.Bits.{bit_at_or, bit_at-pow_same, bit_at-pow_other}
use Rattle.atomic_table.specs.Table.{State, Me, step, gives, Allows}
use Rattle.atomic_table.proofs.Lists.{at_set, set_here, set_else}
use Rattle.yard_core.specs.declared.view.SeatView.{SeatView}
use Rattle.yard_core.specs.Sums.{total, times}
use Rattle.yard_core.specs.Views.{with_given, claims_of, gifts_of, pieces_of, drawn, answers, stands_for, Fits}
use Rattle.yard_core.specs.YardState.{HasPlace, AtHome, claimed_below, YardState}
use Rattle.yard_core.specs.Steps.{Gives}
use Rattle.yard_core.proofs.Sums.{total-set, term_le, total-add, set_same, times_here, times_else, times-append}

-- the bit of a piece, as the code shifts it
pub bit_is : (k : ℕ) → k < 64 → (1 * 2 ^ k) % 2 ^ 64 ≡ 2 ^ k
bit_is k near = ap (λ (n : ℕ). n % 2 ^ 64) (one-mul (2 ^ k)) ∙ mod-eq_of_lt (pow-lt near)

module _ {J O : Type 0} (place : J → ℕ) (origin : J → O) (result : J → Type 0) (asked : ℕ) (origins : List O) where
  abbrev St : Type 0
  St = State (Option J) (SeatView J)

  abbrev Rule : St → Type 0
  Rule s = YardState place origin result asked origins s

  module _ (s : St) (r : Rule s) (id k : ℕ) (v : SeatView J) (job : J) (at : get_elem? s.views id ≡ some v) (some_seat : 0 < v.seats) (one : v.claimed ≡ k ∷ [])
      (its : HasPlace place origin (map origin v.jobs) k job) (worked : result job) where
    abbrev w : SeatView J
    w = with_given v

    abbrev bits : ℕ
    bits = bit_or (get_or s.words 1 0) (2 ^ k)

    abbrev s' : St
    s' = record { words = set s.words 1 bits; homes = set s.homes k (some (Some job)); views = set s.views id w }

    claims_here : claims_of k v ≡ 1
    claims_here = omega (arith, ap (times k) one, times_here k [])

    claims_else : (j : ℕ) → j ≢ k → claims_of j v ≡ 0
    claims_else j ne = omega (arith, ap (times j) one, times_else j k [] (λ e. ne (sym e)))

    same_pieces : (j : ℕ) → total (pieces_of j) (set s.views id w) ≡ total (pieces_of j) s.views
    same_pieces j = set_same (pieces_of j) s.views id v w at (omega (arith, times-append j v.claimed v.given))

    same_drawn : total drawn (set s.views id w) ≡ total drawn s.views
    same_drawn = set_same drawn s.views id v w at (omega (arith, length-append v.claimed v.given))

    -- k is claimed by this view alone, and not given
    only : (k < claimed_below origins s) × (total (claims_of k) s.views ≡ 1) × (total (gifts_of k) s.views ≡ 0)
    only =
        let some_claim : claims_of k v ≤ total (claims_of k) s.views = term_le (claims_of k) s.views id v at in
        let both : total (pieces_of k) s.views ≡ total (claims_of k) s.views + total (gifts_of k) s.views = total-add (claims_of k) (gifts_of k) s.views in
        let here : claims_of k v ≡ 1 = claims_here in
        dite (dec_le (claimed_below origins s) k)
        (λ past. let none : total (pieces_of k) s.views ≡ 0 = r.never k past in absurd (omega arith))
        (λ no. let less : k < claimed_below origins s = lt_of_not-le no in let single : total (pieces_of k) s.views ≡ 1 = r.once k less in (less, omega arith, omega arith))

    new_claims : (j : ℕ) → total (claims_of j) (set s.views id w) + claims_of j v ≡ total (claims_of j) s.views
    new_claims j = let change : total (claims_of j) (set s.views id w) + claims_of j v ≡ total (claims_of j) s.views + claims_of j w = total-set (claims_of j) s.views id v w at in omega arith

    new_gifts : (j : ℕ) → total (gifts_of j) (set s.views id w) ≡ total (gifts_of j) s.views + claims_of j v
    new_gifts j =
        let change : total (gifts_of j) (set s.views id w) + gifts_of j v ≡ total (gifts_of j) s.views + gifts_of j w = total-set (gifts_of j) s.views id v w at in
        let more : gifts_of j w ≡ claims_of j v + gifts_of j v = times-append j v.claimed v.given in
        omega arith

    new_bits : (j : ℕ) → bit_at bits j ≡ total (gifts_of j) (set s.views id w)
    new_bits j =
        let either : bit_at bits j ≡ max (bit_at (get_or s.words 1 0) j) (bit_at (2 ^ k) j) = bit_at_or (get_or s.words 1 0) (2 ^ k) j in
        let old : bit_at (get_or s.words 1 0) j ≡ total (gifts_of j) s.views = r.bits j in
        dite (ℕ_discrete j k)
        (λ e. subst (λ (i : ℕ). bit_at bits i ≡ total (gifts_of i) (set s.views id w)) (sym e) (new_bits_here))
        (λ ne. let low : bit_at (2 ^ k) j ≡ 0 = bit_at-pow_other k j ne in omega (arith, new_gifts j, claims_else j ne))
      where
        new_bits_here : bit_at bits k ≡ total (gifts_of k) (set s.views id w)
        new_bits_here =
            let either : bit_at bits k ≡ max (bit_at (get_or s.words 1 0) k) (bit_at (2 ^ k) k) = bit_at_or (get_or s.words 1 0) (2 ^ k) k in
            let old : bit_at (get_or s.words 1 0) k ≡ total (gifts_of k) s.views = r.bits k in
            let high : bit_at (2 ^ k) k ≡ 1 = bit_at-pow_same k in
            omega (arith, new_gifts k, claims_here, only.2)

    slot : k < length s.homes
    slot = omega (arith, only.0, r.slots)

    new_homes : (j : ℕ) → j < length origins → total (claims_of j) (set s.views id w) ≡ 0 → AtHome place origin result asked origins s' j
    new_homes j near free = dite (ℕ_discrete j k)
        (λ e. subst (λ (i : ℕ). AtHome place origin result asked origins s' i) (sym e)
        (job, set_here s.homes k (some (Some job)) slot, (its.0, subst (λ os. slice_get os k ≡ Some (origin job)) ((r.each id v at).same some_seat).1 its.1), λ _. worked))
        (λ ne.
        let none_mine : claims_of j v ≡ 0 = claims_else j ne in
        let home = r.homes j near (omega (arith, new_claims j)) in
        (home.0, set_else s.homes k j (some (Some job)) ne ∙ home.1, home.2, λ some_gift. home.3 (omega (arith, new_gifts j))))

    new_fits : Fits origin asked origins w
    new_fits = let old = r.each id v at in record { done_le = old.done_le; idle = λ empty. absurd (omega arith); same = old.same }

    word_0 : get_or (set s.words 1 bits) 0 0 ≡ get_or s.words 0 0
    word_0 = get_or-set_other s.words 1 0 bits 0 (λ e. omega arith)

    new_kept : Rule s'
    new_kept = record {
      words = length-set s.words 1 bits ∙ r.words;
      slots = length-set s.homes k (some (Some job)) ∙ r.slots;
      few_jobs = r.few_jobs;
      few_seats = r.few_seats;
      claims = omega (arith, word_0, r.claims, same_drawn, set_same answers s.views id v w at refl);
      count = omega (arith, word_0, r.count, same_drawn);
      once = λ j less. same_pieces j ∙ r.once j (omega (arith, word_0));
      never = λ j less. same_pieces j ∙ r.never j (omega (arith, word_0));
      bits = λ j. ap (λ n. bit_at n j) (get_or-set_same s.words 1 bits 0 (omega (arith, r.words))) ∙ new_bits j;
      homes = new_homes;
      seats = set_same stands_for s.views id v w at refl ∙ r.seats;
      each = λ j u there. ⊎_elim (λ e. subst (λ x. Fits origin asked origins x) e.1 new_fits) (λ e. r.each j u e.1) (at_set s.views id j w u there);
    }

  pub gives_piece : (n id k : ℕ) (v : SeatView J) (job : J) → 0 < v.seats → v.claimed ≡ k ∷ [] → HasPlace place origin (map origin v.jobs) k job → result job
      → Allows Rule n id (v, (k, Some job) ∷ []) 1 (λ x. bit_or x (2 ^ k)) (Gives (step n 1 (2 ^ k) 0 none) (v, (k, Some job) ∷ []))
  gives_piece n id k v job some_seat one its worked s r wide at lt = (with_given v, gives, tt, new_kept s r id k v job at some_seat one its worked, refl)

  pub seat_gives : (n id k bit : ℕ) (me : Me (Option J) (SeatView J)) (v : SeatView J) (job : J) → bit ≡ 2 ^ k → me ≡ (v, (k, Some job) ∷ []) → 0 < v.seats → v.claimed ≡ k ∷ [] → HasPlace place origin (map origin v.jobs) k job → result job
      → Allows Rule n id me 1 (λ x. bit_or x bit) (Gives (step n 1 bit 0 none) me)
  seat_gives n id k bit me v job is has some_seat one its worked =
      let W : ℕ → Me (Option J) (SeatView J) → Type 0 = λ b m. Allows Rule n id m 1 (λ x. bit_or x b) (Gives (step n 1 b 0 none) m) in
      subst (λ b. W b me) (sym is) (subst (W (2 ^ k)) (sym has) (gives_piece n id k v job some_seat one its worked))
