-- The frames of a round: judged one after the other, kept together, and then answered.
use Rattle.std.specs.Prelude.{◌≡◌, ℕ, ◌+◌, ◌≤◌, List, [], ◌∷◌, ◌++◌, length, map, drop, None, Result, Ok, Err, All}
use Rattle.std.specs.List.{between}
use Rattle.wire_in.specs.declared.record.Record.{Record}
use Rattle.wire_in.specs.declared.record.Refusal.{Refusal}
use Rattle.wire_in.specs.Spelling.{InRange}
use Rattle.rulebook.specs.Admission.{verdict}
use Rattle.rulebook.specs.Sent.{judged, with_record}
use Rattle.engine_core.specs.declared.refused.Refused.{Refused}

-- what was found of a frame: its record, which is accepted, or the first refusal that applies
abbrev pub Outcome : Type 0
Outcome = Result Record Refusal

-- the outcomes of the frames of these bodies, one after the other
abbrev pub outcomes_of : ℕ → List Record → List (List ℕ) → List Outcome
outcomes_of capacity held [] = []
outcomes_of capacity held (body ∷ later) = judged capacity held body ∷ outcomes_of capacity (with_record held (judged capacity held body)) later

-- the accepted records among these, the oldest first
abbrev pub records_in : List Outcome → List Record
records_in [] = []
records_in (Ok x ∷ later) = x ∷ records_in later
records_in (Err refusal ∷ later) = records_in later

-- the outcomes of frames, whose accepted records are these from a place on, and of which these are refused
abbrev pub joined : ℕ → List Refused → List Record → List Outcome
joined from [] records = map Ok (drop from records)
joined from (r ∷ later) records = map Ok (between from r.before records) ++ Err r.refusal ∷ joined r.before later records

-- refused frames stand between these places, one behind the other
abbrev pub Rise : ℕ → List Refused → ℕ → Type 0
Rise from [] end = from ≤ end
Rise from (r ∷ later) end = (from ≤ r.before) × Rise r.before later end

-- a record may follow these, and a refusal always may
abbrev pub IsAdmissible : ℕ → List Record → Outcome → Type 0
IsAdmissible capacity held (Ok x) = verdict capacity held x ≡ None
IsAdmissible capacity held (Err refusal) = Unit {0}

-- the outcomes of up to so many frames, the oldest first
pub record RoundState : Type 0 where
  pub outcomes : List Outcome
  pub most : ℕ

-- at most 65,536 outcomes, for which room was taken, as for their records: their accepted records and refused frames are kept
pub record IsRound (round : RoundState) (refused : List Refused) (accepted : List Record) (reserved reserved_records : ℕ) : Type 0 where
  pub few : length round.outcomes ≤ round.most
  pub within : round.most ≤ 65536
  pub reserve : round.most ≤ reserved
  pub reserve_records : round.most ≤ reserved_records
  pub rise : Rise 0 refused (length accepted)
  pub count : length round.outcomes ≡ length accepted + length refused
  pub accepted_are : accepted ≡ records_in round.outcomes
  pub ranges : All InRange accepted
