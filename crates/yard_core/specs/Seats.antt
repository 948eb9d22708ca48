-- What a clause reads of a yard and of its seats.
use Rattle.std.specs.Prelude.{◌≡◌, ℕ, ◌<◌, ◌≤◌, List, [], ◌∷◌, map, length, Option, Some, None}
use Rattle.atomic_table.specs.Seated.{TableId}
use Rattle.yard_core.specs.declared.view.SeatView.{SeatView}
use Rattle.yard_core.specs.declared.yard.Claim.{Claim}
use Rattle.yard_core.specs.declared.yard.Claim.TheVariants.{Piece, Done}
use Rattle.yard_core.specs.declared.yard.YardSeat.{YardSeat}
use Rattle.yard_core.specs.declared.yard.Yard.{Yard}
use Rattle.yard_core.specs.YardState.{HasPlace}

module _ {J O : Type 0} where
  abbrev pub table_of : Yard J O → TableId
  table_of y = y.table.shared.table_id

  -- the jobs that the yard was made of
  abbrev pub jobs_of : Yard J O → List J
  jobs_of y = y.table.shared.key.jobs.value.items

  -- how many seats were asked for
  abbrev pub seats_of : Yard J O → ℕ
  seats_of y = y.table.shared.key.seats

module _ {J : Type 0} where
  -- what the seat knows
  abbrev pub view_of : YardSeat J → SeatView J
  view_of s = s.seat.me.0

  -- the slots that the seat holds
  abbrev pub hand_of : YardSeat J → List (ℕ × Option J)
  hand_of s = s.seat.me.1

  -- how many pieces the seat has given back
  abbrev pub given_count : YardSeat J → ℕ
  given_count s = length (view_of s).given

  -- the seat hasn't answered Done, and has given back every piece that it claimed
  abbrev pub IsIdle : YardSeat J → Type 0
  IsIdle s = (hand_of s ≡ []) × ((view_of s).claimed ≡ []) × ((view_of s).done ≡ 0)

  -- the seat took the job of the piece k
  abbrev pub HasTaken : YardSeat J → ℕ → Type 0
  HasTaken s k = (hand_of s ≡ (k, None) ∷ []) × ((view_of s).claimed ≡ k ∷ []) × ((view_of s).done ≡ 0)

  -- the seat has answered Done, and holds nothing
  abbrev pub IsDone : YardSeat J → Type 0
  IsDone s = (hand_of s ≡ []) × ((view_of s).claimed ≡ []) × ((view_of s).done ≡ 1)

module _ {J O : Type 0} (origin : J → O) where
  -- a seat of this yard
  pub record IsSeatOf (y : Yard J O) (s : YardSeat J) : Type 0 where
    pub table : s.seat.table_id ≡ table_of y
    pub one : (view_of s).seats ≡ 1
    pub asked : (view_of s).asked ≡ seats_of y
    pub origins : map origin (view_of s).jobs ≡ map origin (jobs_of y)

  -- a seat that has claimed nothing yet
  pub record IsFresh (y : Yard J O) (s : YardSeat J) : Type 0 where
    pub seat : IsSeatOf y s
    pub idle : IsIdle s
    pub none : given_count s ≡ 0

  -- a seat that has answered Done, and holds nothing
  pub record IsDoneAt (y : Yard J O) (s : YardSeat J) : Type 0 where
    pub seat : IsSeatOf y s
    pub done : IsDone s

module _ {J O : Type 0} (place : J → ℕ) (origin : J → O) where
  -- the job has the place k of this yard: its place is k, and it was made from what the k-th job was made from
  abbrev pub HasPlaceIn : Yard J O → ℕ → J → Type 0
  HasPlaceIn y k job = HasPlace place origin (map origin (jobs_of y)) k job

  -- the seat claimed the piece k, and its slot, and hasn't taken the job
  abbrev pub HasClaimed : YardSeat J → ℕ → Type 0
  HasClaimed s k = ((job : J) × (hand_of s ≡ (k, Some job) ∷ []) × HasPlace place origin (map origin (view_of s).jobs) k job) × ((view_of s).claimed ≡ k ∷ []) × ((view_of s).done ≡ 0)

  -- what a claim answers where it finds this number
  abbrev pub Answers : ℕ → YardSeat J → YardSeat J → ℕ → Claim → Type 0
  Answers jobs old new found (Piece k) = (k ≡ found) × (found < jobs) × HasClaimed new k × (given_count new ≡ given_count old) × (given_count new < jobs)
  Answers jobs old new found Done = (jobs ≤ found) × IsDone new × (given_count new ≡ given_count old)

-- the seat after one round: it gave back the piece that it claimed, or no piece was left
abbrev pub IsAfterRound : {J : Type 0} → YardSeat J → Claim → Type 0
IsAfterRound s (Piece k) = IsIdle s
IsAfterRound s Done = IsDone s
