-- What a seat's view says.
use Rattle.std.specs.Prelude.{◌≡◌, ℕ, ◌+◌, ◌-◌, ◌<◌, ◌≤◌, List, [], ◌∷◌, ◌++◌, length, map}
use Rattle.yard_core.specs.declared.view.SeatView.{SeatView}
use Rattle.yard_core.specs.Sums.{times}

module _ {J : Type 0} where
  abbrev pub view : List ℕ → List ℕ → ℕ → ℕ → ℕ → List J → SeatView J
  view claimed given done seats asked jobs = record { claimed = claimed; given = given; done = done; seats = seats; asked = asked; jobs = jobs }

  -- the first seat stands for all
  abbrev pub first_view : ℕ → List J → SeatView J
  first_view asked jobs = view [] [] 0 asked asked jobs

  -- the view of a seat that another has taken in
  abbrev pub spent : SeatView J
  spent = view [] [] 0 0 0 []

  abbrev pub left_view : SeatView J → SeatView J
  left_view v = view v.claimed v.given v.done (v.seats - 1) v.asked v.jobs

  abbrev pub right_view : SeatView J → SeatView J
  right_view v = view [] [] 0 1 v.asked v.jobs

  -- one more piece is claimed
  abbrev pub with_piece : SeatView J → ℕ → SeatView J
  with_piece v k = view (k ∷ v.claimed) v.given v.done v.seats v.asked v.jobs

  -- one more answer that no piece is left
  abbrev pub with_done : SeatView J → SeatView J
  with_done v = view v.claimed v.given (v.done + 1) v.seats v.asked v.jobs

  -- what was claimed is given
  abbrev pub with_given : SeatView J → SeatView J
  with_given v = view [] (v.claimed ++ v.given) v.done v.seats v.asked v.jobs

  abbrev pub joined : SeatView J → SeatView J → SeatView J
  joined v w = view (v.claimed ++ w.claimed) (v.given ++ w.given) (v.done + w.done) (v.seats + w.seats) v.asked v.jobs

  abbrev pub claims_of : ℕ → SeatView J → ℕ
  claims_of k v = times k v.claimed

  abbrev pub gifts_of : ℕ → SeatView J → ℕ
  gifts_of k v = times k v.given

  -- how often the piece k stands in the view
  abbrev pub pieces_of : ℕ → SeatView J → ℕ
  pieces_of k v = claims_of k v + gifts_of k v

  abbrev pub drawn : SeatView J → ℕ
  drawn v = length v.claimed + length v.given

  abbrev pub answers : SeatView J → ℕ
  answers v = v.done

  abbrev pub stands_for : SeatView J → ℕ
  stands_for v = v.seats

module _ {J O : Type 0} (origin : J → O) where
  -- A view is spent, or stands for a seat at least. It has no more Done answers than seats
  pub record Fits (asked : ℕ) (origins : List O) (v : SeatView J) : Type 0 where
    pub done_le : v.done ≤ v.seats
    pub idle : v.seats ≡ 0 → v ≡ spent
    pub same : 0 < v.seats → (v.asked ≡ asked) × (map origin v.jobs ≡ origins)

-- the view stands for all seats, each of which has answered Done, and holds no piece
pub record IsLast {J : Type 0} (v : SeatView J) : Type 0 where
  pub all : v.seats ≡ v.asked
  pub some_seat : 0 < v.seats
  pub done : v.done ≡ v.seats
  pub none : v.claimed ≡ []
