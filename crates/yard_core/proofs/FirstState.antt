-- A new table keeps the rule of a yard.
use Rattle.std.proofs.Common.{◌≡◌, ℕ, zero, suc, ◌<◌, ◌≤◌, List, [], ◌∷◌, map, length, sym, refl, ap, ◌∙◌, subst, arith}
use mathlib.Core.Option.{some, some-injective, some-ne-none}
use lib.ListN.{get_elem?}
use Rattle.std.specs.Prelude.{Option, Some, slice_get}
use Rattle.std.proofs.lemmas.Nat.Bits.{bit_at-zero}
use Rattle.atomic_table.specs.Table.{opening}
use Rattle.yard_core.specs.declared.view.SeatView.{SeatView}
use Rattle.yard_core.specs.Views.{first_view, Fits}
use Rattle.yard_core.specs.YardState.{YardState}

same_length : {A B : Type 0} (f : A → B) (xs : List A) → length (map f xs) ≡ length xs
same_length f [] = refl
same_length f (x ∷ xs) = ap suc (same_length f xs)

module _ {J O : Type 0} (place : J → ℕ) (origin : J → O) (result : J → Type 0) where
  -- the job k, as the slots and the origins have it
  laid : (jobs : List J) (k : ℕ) → k < length jobs → (job : J) × (slice_get jobs k ≡ Some job) × (get_elem? (map some (map Some jobs)) k ≡ some (some (Some job))) × (slice_get (map origin jobs) k ≡ Some (origin job))
  laid [] k near = absurd (omega arith)
  laid (j ∷ js) zero near = (j, refl, refl, refl)
  laid (j ∷ js) (suc k) near = laid js k (omega arith)

  pub opens : (asked : ℕ) (jobs : List J) → 0 < asked → asked ≤ 64 → length jobs ≤ 64 → ((k : ℕ) (job : J) → slice_get jobs k ≡ Some job → place job ≡ k)
      → YardState place origin result asked (map origin jobs) (opening (0 ∷ 0 ∷ []) (map Some jobs) (first_view asked jobs))
  opens asked jobs some_seat few_seats few_jobs places =
      let count : length (map origin jobs) ≡ length jobs = same_length origin jobs in
      let v : SeatView J = first_view asked jobs in
      let fits : Fits origin asked (map origin jobs) v = record { done_le = omega arith; idle = λ empty. absurd (omega arith); same = λ _. (refl, refl) } in
      record {
        words = refl;
        slots = same_length some (map Some jobs) ∙ (same_length Some jobs ∙ sym count);
        few_jobs = omega arith;
        few_seats = few_seats;
        claims = refl;
        count = omega arith;
        once = λ k less. absurd (omega arith);
        never = λ k _. refl;
        bits = λ k. bit_at-zero k;
        homes = λ k near _. let it = laid jobs k (omega arith) in (it.0, it.2, (places k it.0 it.1, it.3), λ some_gift. absurd (omega arith));
        seats = omega arith;
        each = only_first fits;
      }
    where
      only_first : Fits origin asked (map origin jobs) (first_view asked jobs) → (id : ℕ) (v : SeatView J) → get_elem? (first_view asked jobs ∷ []) id ≡ some v → Fits origin asked (map origin jobs) v
      only_first fits zero v at = subst (λ x. Fits origin asked (map origin jobs) x) (some-injective _ v at) fits
      only_first fits (suc id) v at = absurd (some-ne-none v (sym at))

  pub opens_with : (asked : ℕ) (jobs noted : List J) (slots : List (Option J)) → noted ≡ jobs → slots ≡ map Some jobs → 0 < asked → asked ≤ 64 → length jobs ≤ 64 → ((k : ℕ) (job : J) → slice_get jobs k ≡ Some job → place job ≡ k)
      → YardState place origin result asked (map origin noted) (opening (0 ∷ 0 ∷ []) slots (first_view asked noted))
  opens_with asked jobs noted slots same laid_out some_seat few_seats few_jobs places =
      subst (λ js. YardState place origin result asked (map origin js) (opening (0 ∷ 0 ∷ []) slots (first_view asked js))) (sym same)
      (subst (λ xs. YardState place origin result asked (map origin jobs) (opening (0 ∷ 0 ∷ []) xs (first_view asked jobs))) (sym laid_out) (opens asked jobs some_seat few_seats few_jobs places))
