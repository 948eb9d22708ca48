-- The rule of a yard's table. Word 0 counts the claims, word 1 has a bit for each piece that is given, and slot k is for the job of place k.
use Rattle.std.specs.Prelude.{◌≡◌, ℕ, ◌+◌, ◌<◌, ◌≤◌, min, List, length, slice_index, slice_get, Option, Some}
use Rattle.std.specs.Int.{bit_at}
use mathlib.Core.Option.{some}
use lib.ListN.{get_elem?}
use Rattle.atomic_table.specs.Table.{State}
use Rattle.yard_core.specs.declared.view.SeatView.{SeatView}
use Rattle.yard_core.specs.Sums.{total}
use Rattle.yard_core.specs.Views.{claims_of, gifts_of, pieces_of, drawn, answers, stands_for, Fits}

module _ {J O : Type 0} (place : J → ℕ) (origin : J → O) where
  -- the job has the place k of a yard whose jobs were made from these
  abbrev pub HasPlace : List O → ℕ → J → Type 0
  HasPlace origins k job = (place job ≡ k) × (slice_get origins k ≡ Some (origin job))

-- the pieces that were claimed so far are those below it
abbrev pub claimed_below : {S V O : Type 0} → List O → State S V → ℕ
claimed_below origins s = min (slice_index s.words 0) (length origins)

module _ {J O : Type 0} (place : J → ℕ) (origin : J → O) (result : J → Type 0) (asked : ℕ) (origins : List O) where
  abbrev pub AtHome : State (Option J) (SeatView J) → ℕ → Type 0
  AtHome s k = (job : J) × (get_elem? s.homes k ≡ some (some (Some job))) × HasPlace place origin origins k job × (0 < total (gifts_of k) s.views → result job)

  pub record YardState (s : State (Option J) (SeatView J)) : Type 0 where
    pub words : length s.words ≡ 2
    pub slots : length s.homes ≡ length origins
    pub few_jobs : length origins ≤ 64
    pub few_seats : asked ≤ 64
    -- each claim is a piece of some view or one of its Done answers
    pub claims : slice_index s.words 0 ≡ total drawn s.views + total answers s.views
    pub count : total drawn s.views ≡ claimed_below origins s
    -- each claimed piece is in one view, once, and no other piece is in a view
    pub once : (k : ℕ) → k < claimed_below origins s → total (pieces_of k) s.views ≡ 1
    pub never : (k : ℕ) → claimed_below origins s ≤ k → total (pieces_of k) s.views ≡ 0
    pub bits : (k : ℕ) → bit_at (slice_index s.words 1) k ≡ total (gifts_of k) s.views
    -- a slot whose piece isn't claimed, or is given, has its job
    pub homes : (k : ℕ) → k < length origins → total (claims_of k) s.views ≡ 0 → AtHome s k
    pub seats : total stands_for s.views ≡ asked
    pub each : (id : ℕ) (v : SeatView J) → get_elem? s.views id ≡ some v → Fits origin asked origins v
