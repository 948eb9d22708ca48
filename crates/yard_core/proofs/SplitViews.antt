-- Seats that are cut and joined.
use Rattle.std.proofs.Common.{◌≡◌, ℕ, ◌-◌, List, [], ◌++◌, map, length, ap, ◌∙◌}
use Rattle.atomic_table.specs.Table.{Me}
use Rattle.yard_core.specs.declared.view.SeatView.{SeatView}
use Rattle.yard_core.specs.declared.yard.Yard.{Yard}
use Rattle.yard_core.specs.declared.yard.YardSeat.{YardSeat}
use Rattle.yard_core.specs.Views.{view, left_view, right_view, joined}
use Rattle.yard_core.specs.Seats.{table_of, jobs_of, seats_of, IsFresh}

module _ {J O : Type 0} (origin : J → O) where
  pub fresh_of : (y : Yard J O) (s : YardSeat J) → s.seat.table_id ≡ table_of y → s.seat.me ≡ (view [] [] 0 1 (seats_of y) (jobs_of y), []) → IsFresh origin y s
  fresh_of y s table is = record {
    seat = record { table = table; one = ap (λ m. m.0.seats) is; asked = ap (λ m. m.0.asked) is; origins = ap (λ m. map origin m.0.jobs) is };
    idle = (ap (λ m. m.1) is, ap (λ m. m.0.claimed) is, ap (λ m. m.0.done) is);
    none = ap (λ m. length m.0.given) is;
  }

module _ {S J : Type 0} where
  -- the seat that was cut
  pub left_of : (old new : Me S (SeatView J)) (n m asked : ℕ) (os : List J) → new ≡ (left_view old.0, old.1) → old ≡ (view [] [] 0 n asked os, []) → n - 1 ≡ m → new ≡ (view [] [] 0 m asked os, [])
  left_of old new n m asked os cut is less = cut ∙ (λ i. (left_view (is i).0, (is i).1)) ∙ (λ i. (view [] [] 0 (less i) asked os, []))

  -- and the seat that was cut from it
  pub right_of : (old new : Me S (SeatView J)) (n asked all : ℕ) (os : List J) → new ≡ (right_view old.0, []) → old ≡ (view [] [] 0 n asked os, []) → asked ≡ all → new ≡ (view [] [] 0 1 all os, [])
  right_of old new n asked all os cut is same = cut ∙ (λ i. (right_view (is i).0, [])) ∙ (λ i. (view [] [] 0 1 (same i) os, []))

  pub join_of : (old new : Me S (SeatView J)) (w : SeatView J) → new ≡ (joined old.0 w, old.1) → old.1 ≡ [] → old.0.claimed ≡ [] → w.claimed ≡ [] → (new.1 ≡ []) × (new.0.claimed ≡ [])
  join_of old new w is hand mine its = (ap (λ m. m.1) is ∙ hand, ap (λ m. m.0.claimed) is ∙ (λ i. mine i ++ its i))
