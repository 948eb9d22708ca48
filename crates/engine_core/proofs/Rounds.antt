-- The outcomes of a round, and the records that it accepts.
use Rattle.std.proofs.Common.{rules, ◌≡◌, ℕ, ◌+◌, ◌-◌, ◌<◌, ◌≤◌, List, [], ◌∷◌, ◌++◌, length, map, take, drop, Some, None, Ok, Err, Result, IfOk, OnOk, All, refl, sym, ap, ◌∙◌, append_assoc, append-nil, length-append, arith}
use Rattle.std.proofs.Common.{Vec, Global, vec_len}
use Rattle.std.specs.List.{between}
use Rattle.std.proofs.Math.ListN.{set}
use Rattle.std.proofs.lemmas.List.{reverse-append, map-append, set_at, drop-append-le, take-append-le, drop_all, length-drop}
use Rattle.std.proofs.lemmas.Slice.{between_to_end}
use Rattle.std.proofs.lemmas.List.Elements.{All-append}
use Rattle.wire_in.specs.declared.record.Record.{Record}
use Rattle.wire_in.specs.declared.record.Refusal.{Refusal}
use Rattle.wire_in.specs.Reading.{placed, record_of}
use Rattle.wire_in.specs.Spelling.{InRange, Spells}
use Rattle.wire_in.specs.Cutting.{bodies_of, rest_of}
use Rattle.wire_in.proofs.Cuts.{bodies_of-append, rest_of-append, cut_framed}
use Rattle.wire_core.specs.Frames.{framed}
use Rattle.journal_core.specs.Layout.{with_batch}
use Rattle.rulebook.specs.Admission.{verdict}
use Rattle.rulebook.specs.Sent.{record_or_refusal, admitted, judged, with_record, accepted_of}
use Rattle.market_core.specs.AdmissionState.{AdmissionState, refusal_of}
use Rattle.shard_core.specs.Block.{AreAdmissible}
use Rattle.engine_core.specs.Rounds.{Outcome, RoundState, IsRound, Rise, outcomes_of, records_in, joined, IsAdmissible}
use Rattle.engine_core.specs.declared.refused.Refused.{Refused}

pub outcomes-append : (capacity : ℕ) (held : List Record) (a b : List (List ℕ)) → outcomes_of capacity held (a ++ b) ≡ outcomes_of capacity held a ++ outcomes_of capacity (accepted_of capacity held a) b
outcomes-append capacity held [] b = refl
outcomes-append capacity held (body ∷ a) b = rw (outcomes-append capacity (with_record held (judged capacity held body)) a b)

pub no_outcome : (capacity : ℕ) (held : List Record) (bodies : List (List ℕ)) → [] ≡ outcomes_of capacity held bodies → bodies ≡ []
no_outcome capacity held [] is = refl
no_outcome capacity held (body ∷ later) is = absurd cc

-- a batch with one record less, held behind it
one_record : (held : List Record) (outcome : Outcome) (later : List Outcome) → with_batch held (records_in (outcome ∷ later)) ≡ with_batch (with_record held outcome) (records_in later)
one_record held (Ok x) later = simp (reverse-append (x ∷ []) (records_in later), append_assoc)
one_record held (Err refusal) later = refl

-- the accepted records of a round, kept as a batch
pub batch_of : (capacity : ℕ) (held : List Record) (bodies : List (List ℕ)) → with_batch held (records_in (outcomes_of capacity held bodies)) ≡ accepted_of capacity held bodies
batch_of capacity held [] = refl
batch_of capacity held (body ∷ later) =
    one_record held (judged capacity held body) _ ∙ batch_of capacity (with_record held (judged capacity held body)) later

-- what was judged may follow
pub admissible_judged : (capacity : ℕ) (held : List Record) (body : List ℕ) → IsAdmissible capacity held (judged capacity held body)
admissible_judged capacity held body =
    elim (record_of body) as (λ r. IsAdmissible capacity held (admitted capacity held r)) [
      | Ok x ↦ elim (verdict capacity held x) as (λ v. verdict capacity held x ≡ v → IsAdmissible capacity held (record_or_refusal x v)) [ None ↦ λ is. is | Some refusal ↦ λ is. tt ] refl
      | Err refusal ↦ tt
    ]

one_admissible : (capacity : ℕ) (held : List Record) (outcome : Outcome) (later : List Outcome) → IsAdmissible capacity held outcome → AreAdmissible capacity (with_record held outcome) (records_in later)
    → AreAdmissible capacity held (records_in (outcome ∷ later))
one_admissible capacity held outcome later one rest = grind arith

-- the accepted records of a round may follow one after the other
pub admissible_records : (capacity : ℕ) (held : List Record) (bodies : List (List ℕ)) → AreAdmissible capacity held (records_in (outcomes_of capacity held bodies))
admissible_records capacity held [] = tt
admissible_records capacity held (body ∷ later) =
    one_admissible capacity held (judged capacity held body) _ (admissible_judged capacity held body) (admissible_records capacity (with_record held (judged capacity held body)) later)

-- the first frame of a round
pub judged_first : (capacity : ℕ) (held : List Record) (outcome : Outcome) (later : List Outcome) (waiting : List (List ℕ)) → outcome ∷ later ≡ outcomes_of capacity held waiting
    → (body : List ℕ) × (rest : List (List ℕ)) × (waiting ≡ body ∷ rest) × (outcome ≡ judged capacity held body)
    × (later ≡ outcomes_of capacity (with_record held (judged capacity held body)) rest)
judged_first capacity held outcome later [] is = absurd cc
judged_first capacity held outcome later (body ∷ rest) is = (body, rest, refl, cc, cc)

pub records-append : (a b : List Outcome) → records_in (a ++ b) ≡ records_in a ++ records_in b
records-append [] b = refl
records-append (outcome ∷ a) b = let later = records-append a b in grind (arith, later)

pub few_records : (outcomes : List Outcome) → length (records_in outcomes) ≤ length outcomes
few_records [] = omega arith
few_records (outcome ∷ later) = let le = few_records later in grind (arith, le)

pub rise_end : (from : ℕ) (refused : List Refused) (end : ℕ) → Rise from refused end → from ≤ end
rise_end from [] end rise = rise
rise_end from (r ∷ later) end rise = let le = rise_end r.before later end rise.1 in omega (arith, rise.0, le)

rise_more : (from : ℕ) (refused : List Refused) (end : ℕ) → Rise from refused end → Rise from refused (end + 1)
rise_more from [] end rise = omega (arith, rise)
rise_more from (r ∷ later) end rise = (rise.0, rise_more r.before later end rise.1)

rise_refused : (from : ℕ) (refused : List Refused) (r : Refused) → Rise from refused r.before → Rise from (refused ++ r ∷ []) r.before
rise_refused from [] r rise = (rise, omega arith)
rise_refused from (s ∷ later) r rise = (rise.0, rise_refused s.before later r rise.1)

-- one accepted frame more
joined_accepted : (from : ℕ) (refused : List Refused) (accepted : List Record) (x : Record) → Rise from refused (length accepted) → joined from refused (accepted ++ x ∷ []) ≡ joined from refused accepted ++ Ok x ∷ []
joined_accepted from [] accepted x rise = ap (map Ok) (drop-append-le from accepted (x ∷ []) rise) ∙ map-append Ok (drop from accepted) (x ∷ [])
joined_accepted from (r ∷ later) accepted x rise =
    let end = rise_end r.before later (length accepted) rise.1 in
    let run : between from r.before (accepted ++ x ∷ []) ≡ between from r.before accepted =
    ap (take (r.before - from)) (drop-append-le from accepted (x ∷ []) (omega (arith, rise.0, end))) ∙ take-append-le (r.before - from) (drop from accepted) (x ∷ []) (omega (arith, rise.0, end, length-drop from accepted)) in
    (λ i. map Ok (run i) ++ Err r.refusal ∷ joined_accepted r.before later accepted x rise.1 i) ∙ sym (append_assoc (map Ok (between from r.before accepted)) (Err r.refusal ∷ joined r.before later accepted) (Ok x ∷ []))

-- one refused frame more
joined_refused : (from : ℕ) (refused : List Refused) (accepted : List Record) (refusal : Refusal)
    → joined from (refused ++ record { before = length accepted; refusal = refusal } ∷ []) accepted ≡ joined from refused accepted ++ Err refusal ∷ []
joined_refused from [] accepted refusal =
    (λ i. map Ok (between_to_end accepted from (length accepted) (omega arith) i) ++ Err refusal ∷ map Ok (drop_all (length accepted) accepted (omega arith) i))
joined_refused from (r ∷ later) accepted refusal =
    ap (λ (rest : List Outcome). map Ok (between from r.before accepted) ++ Err r.refusal ∷ rest) (joined_refused r.before later accepted refusal)
    ∙ sym (append_assoc (map Ok (between from r.before accepted)) (Err r.refusal ∷ joined r.before later accepted) (Err refusal ∷ []))

-- What a round keeps, with one frame more.
pub record Adds (refused next_refused : List Refused) (accepted next_accepted : List Record) (outcome : Outcome) : Type 0 where
  pub accepted_are : next_accepted ≡ accepted ++ records_in (outcome ∷ [])
  pub whole : joined 0 next_refused next_accepted ≡ joined 0 refused accepted ++ outcome ∷ []
  pub rise : Rise 0 next_refused (length next_accepted)
  pub count : length next_accepted + length next_refused ≡ length accepted + length refused + 1

-- a record in its place behind the accepted ones
pub in_place : (accepted : Vec Record Global) {places : List Record} {place : ℕ} (blank x : Record) → places ≡ accepted.items ++ blank ∷ [] → place ≡ vec_len accepted → set places place x ≡ accepted.items ++ x ∷ []
in_place accepted {places} {place} blank x are last = ap (λ (records : List Record). set records place x) are ∙ set_at accepted.items blank [] x place (grind (arith, last, accepted.ok.0))

pub adds_accepted : {refused : List Refused} {accepted next_accepted : List Record} {x : Record} → Rise 0 refused (length accepted) → next_accepted ≡ accepted ++ x ∷ [] → Adds refused refused accepted next_accepted (Ok x)
adds_accepted {refused} {accepted} {next_accepted} {x} rise are =
    let long : length next_accepted ≡ length accepted + 1 = ap length are ∙ length-append accepted (x ∷ []) in
    record {
      accepted_are = are;
      whole = ap (joined 0 refused) are ∙ joined_accepted 0 refused accepted x rise;
      rise = rw long (rise_more 0 refused (length accepted) rise);
      count = omega (arith, long);
    }

pub adds_refused : {refused next_refused : List Refused} {accepted next_accepted : List Record} {refusal : Refusal} → Rise 0 refused (length accepted) → next_accepted ≡ accepted
    → next_refused ≡ refused ++ record { before = length accepted; refusal = refusal } ∷ [] → Adds refused next_refused accepted next_accepted (Err refusal)
adds_refused {refused} {next_refused} {accepted} {next_accepted} {refusal} rise same are = record {
  accepted_are = same ∙ sym (append-nil accepted);
  whole = (λ i. joined 0 (are i) (same i)) ∙ joined_refused 0 refused accepted refusal;
  rise = rw (are, same) (rise_refused 0 refused (record { before = length accepted; refusal = refusal }) rise);
  count = omega (arith, ap length same, ap length are, length-append refused (record { before = length accepted; refusal = refusal } ∷ []));
}

-- a record that is admissible finds room
pub has_room : (a : AdmissionState) (x : Record) → refusal_of a x ≡ None → a.count < a.capacity
has_room a x none = grind (arith, none)

-- what was read in its place is in its ranges
pub placed_range : (body : List ℕ) (x : Record) (read : Result (Unit {0}) Refusal) → OnOk read (Spells body x) → IfOk (placed x read) InRange
placed_range body x read spells = grind (arith, spells)

record_range : (outcome : Outcome) → IfOk outcome InRange → All InRange (records_in (outcome ∷ []))
record_range (Ok x) range = search rules
record_range (Err refusal) range = search rules

-- the outcomes of a round with one frame more
pub outcomes_on : {round : RoundState} {refused next_refused : List Refused} {accepted next_accepted : List Record} {outcome : Outcome} {most : ℕ}
    → record { outcomes = joined 0 refused accepted; most = most } ≡ round → Adds refused next_refused accepted next_accepted outcome → joined 0 next_refused next_accepted ≡ round.outcomes ++ outcome ∷ []
outcomes_on {outcome = outcome} view adds = adds.whole ∙ ap (λ (r : RoundState). r.outcomes ++ outcome ∷ []) view

-- A round with one frame more.
pub one_more : {round : RoundState} {refused next_refused : List Refused} {accepted next_accepted : List Record} {outcome : Outcome} {most reserved more reserved_records more_records : ℕ}
    → record { outcomes = joined 0 refused accepted; most = most } ≡ round → IsRound (record { outcomes = joined 0 refused accepted; most = most }) refused accepted reserved reserved_records
    → length round.outcomes < round.most → IfOk outcome InRange → Adds refused next_refused accepted next_accepted outcome → more ≡ reserved → more_records ≡ reserved_records
    → (record { outcomes = joined 0 next_refused next_accepted; most = most } ≡ record round { outcomes = round.outcomes ++ outcome ∷ [] })
    × IsRound (record { outcomes = joined 0 next_refused next_accepted; most = most }) next_refused next_accepted more more_records
one_more {refused = refused} {accepted = accepted} {outcome = outcome} {most = most} view was room range adds reserve reserve_records =
    let outcomes = joined 0 refused accepted in
    let one = outcome ∷ [] in
    let long = ap length adds.whole ∙ length-append outcomes one in (
      (λ i. record { outcomes = adds.whole i; most = most }) ∙ ap (λ (r : RoundState). record r { outcomes = r.outcomes ++ one }) view,
      record {
        few = omega (arith, long, room, ap (λ (r : RoundState). length r.outcomes) view, ap (λ (r : RoundState). r.most) view);
        within = was.within;
        reserve = omega (arith, was.reserve, reserve);
        reserve_records = omega (arith, was.reserve_records, reserve_records);
        rise = adds.rise;
        count = omega (arith, long, was.count, adds.count);
        accepted_are = adds.accepted_are ∙ ap (λ (records : List Record). records ++ records_in one) was.accepted_are ∙ sym (records-append outcomes one) ∙ ap records_in (sym adds.whole);
        ranges = rw adds.accepted_are (All-append InRange _ _ was.ranges (record_range outcome range));
      },
    )

-- The refused frame in front of the later ones: what is left of a round's frames, and where its accepted ones stand.
module _ (begin : ℕ) (records : List Record) {refused later : List Refused} {r : Refused} (split : refused ≡ r ∷ later) where
  pub left_is : joined begin refused records ≡ map Ok (between begin r.before records) ++ Err r.refusal ∷ joined r.before later records
  left_is = ap (λ (rs : List Refused). joined begin rs records) split

  pub rise_on : Rise begin refused (length records) → (begin ≤ r.before) × (r.before ≤ length records) × Rise r.before later (length records)
  rise_on rise = let rises = rw split at rise in (rises.0, rise_end r.before later (length records) rises.1, rises.1)

-- behind the last refused frame a run of accepted ones is left
pub last_run : (begin : ℕ) (records : List Record) {refused : List Refused} → refused ≡ [] → joined begin refused records ≡ map Ok (between begin (length records) records) ++ []
last_run begin records none = ap (λ (rs : List Refused). joined begin rs records) none ∙ ap (map Ok) (sym (between_to_end records begin (length records) (omega arith))) ∙ sym (append-nil (map Ok (between begin (length records) records)))

-- a whole frame behind whole frames
pub whole_on : (read taken body : List ℕ) → rest_of read ≡ [] → framed body ≡ taken → (bodies_of (read ++ taken) ≡ bodies_of read ++ body ∷ []) × (rest_of (read ++ taken) ≡ [])
whole_on read taken body none is =
    let joined : rest_of read ++ taken ≡ framed body = ap (λ (rest : List ℕ). rest ++ taken) none ∙ sym is in
    let first = cut_framed body in (
      bodies_of-append read taken ∙ ap (λ (bytes : List ℕ). bodies_of read ++ bodies_of bytes) joined ∙ ap (λ (bodies : List (List ℕ)). bodies_of read ++ bodies) first.0,
      rest_of-append read taken ∙ ap rest_of joined ∙ first.1,
    )
