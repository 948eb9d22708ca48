-- What each step on a yard's table tells: of the step, the seat before, the number found and the seat after.
use Rattle.std.specs.Prelude.{◌≡◌, ℕ, ◌<◌, ◌≤◌, ◌∷◌, map, Option, Some}
use Rattle.atomic_table.specs.Table.{Me, Step, rest}
use Rattle.yard_core.specs.declared.view.SeatView.{SeatView}
use Rattle.std.specs.Int.{bit_at}
use Rattle.yard_core.specs.Views.{with_piece, with_done, with_given, drawn}
use Rattle.yard_core.specs.YardState.{HasPlace}

abbrev pub SeatState : Type 0 → Type 0
SeatState J = Me (Option J) (SeatView J)

module _ {J O : Type 0} (place : J → ℕ) (origin : J → O) where
  -- the old number is claimed, and its slot passes to the claimer
  abbrev pub ClaimsPiece : ℕ → SeatState J → ℕ → SeatState J → Type 0
  ClaimsPiece jobs m k n = (job : J) × (n ≡ (with_piece m.0 k, (k, Some job) ∷ m.1)) × HasPlace place origin (map origin m.0.jobs) k job × (drawn n.0 ≤ jobs)

  abbrev pub Claims : Step (Option J) → SeatState J → ℕ → SeatState J → Type 0
  Claims st m r n = (r < st.slots → ClaimsPiece st.slots m r n) × (st.slots ≤ r → n ≡ (with_done m.0, m.1))

module _ {J : Type 0} where
  -- the piece goes from claimed to given, and its slot goes home
  abbrev pub Gives : Step (Option J) → SeatState J → ℕ → SeatState J → Type 0
  Gives st m r n = n ≡ (with_given m.0, rest m.1)

  -- each piece is given
  abbrev pub Counts : Step (Option J) → SeatState J → ℕ → SeatState J → Type 0
  Counts st m r n = (n ≡ m) × ((k : ℕ) → k < st.slots → bit_at r k ≡ 1)
