-- Lemmas on histories: what a message leaves, and what a run has.
use Rattle.std.proofs.Common.{◌≡◌, ℕ, Bool, true, false, eqb, List, [], ◌∷◌, refl, sym, ap, ◌∙◌, arith, subst}
use Rattle.std.specs.Prelude.{Option, Some, None, if◌then◌else◌, option_map, unwrap_or, ◌&&◌, not, is_some}
use Rattle.std.specs.Option.{option_map_or}
use Rattle.std.proofs.lemmas.Bool.Decides.{eqb_tells}
use Rattle.session_core.specs.declared.state.Phase.{Phase}
use Rattle.wire_in.specs.declared.record.Record.{Record}
use Rattle.wire_out.specs.declared.message.Message.{Message}
use Rattle.rulebook.specs.declared.event.Event.{Event}
use Rattle.rulebook.specs.declared.event.Event.TheVariants.{Accepted, Published}
use Rattle.rulebook.specs.History.{now, newest, step_record, today, last}
use Rattle.wire_in.specs.Records.{moment_of, is_day}
use Rattle.rulebook.specs.Symbol.{run, run_in, begun, begun_in, begins_run, state_of, phase_in}
use Rattle.pause_core.specs.Phases.{is_trading, is_limit}
use Rattle.rulebook.specs.Auction.{pauses, is_paused}
use Rattle.wire_out.specs.declared.message.Message.TheVariants as out

pub same : (n : ℕ) → eqb n n ≡ true
same n = grind (arith, eqb_tells)

pub newest-today : (h : List Event) → newest (today h) ≡ newest h
newest-today [] = refl
newest-today (Accepted x ∷ h) = elim (is_day x) as (λ b. newest (if b then Accepted x ∷ [] else Accepted x ∷ today h) ≡ Some x) [ true ↦ refl | false ↦ refl ]
newest-today (Published m ∷ h) = newest-today h

-- a value of the run after a message that may begin a run and that the value ignores
pub of_run : {X : Type 0} (of : List Event → X) (m : Message) (begins : Bool) (h : List Event) (before : Option (List Event))
    → ((r : List Event) → of (Published m ∷ r) ≡ of r)
    → of (unwrap_or (if begins then Some (Published m ∷ step_record h) else option_map (λ r. Published m ∷ r) before) []) ≡ (if begins then of (step_record h) else of (unwrap_or before []))
of_run of m true h before ignores = ignores (step_record h)
of_run of m false h None ignores = refl
of_run of m false h (Some r) ignores = ignores r

-- the step's record, alone
pub record_alone : (x : Record) (h : List Event) → newest h ≡ Some x → step_record (today h) ≡ Accepted x ∷ []
record_alone x h e = rw (newest-today h, e)

-- a search for the last message that has a value
pub last-own : {X : Type 0} (has : Message → Option X) (m : Message) (x : X) (h : List Event) → has m ≡ Some x → last has (Published m ∷ h) ≡ Some (record { moment = now h; value = x })
last-own {X} has m x h e = subst (λ (o : Option X). elim o [ Some y ↦ Some (record { moment = now h; value = y }) | None ↦ last has h ] ≡ Some (record { moment = now h; value = x })) (sym e) refl

pub last-other : {X : Type 0} (has : Message → Option X) (m : Message) (h : List Event) → has m ≡ None → last has (Published m ∷ h) ≡ last has h
last-other {X} has m h e = subst (λ (o : Option X). elim o [ Some y ↦ Some (record { moment = now h; value = y }) | None ↦ last has h ] ≡ last has h) (sym e) refl

pub state-own : (s : ℕ) (p : Phase) → state_of s (out.State s p) ≡ Some p
state-own s p = rw (same s)

pub begins-own : (s : ℕ) (p : Phase) (h : List Event) → begins_run s (out.State s p) h ≡ (is_trading p && not (is_limit (phase_in s h)))
begins-own s p h = ap (λ (o : Option Phase). option_map_or is_trading o false && not (is_limit (phase_in s h))) (state-own s p)

pub pauses-own : (s : ℕ) (p : Phase) → pauses s (out.State s p) ≡ is_paused p
pauses-own s p = ap (λ (o : Option Phase). option_map_or is_paused o false) (state-own s p)

-- a value of the run after a message that begins none and that the value ignores
pub on_run : {X : Type 0} (value : List Event → X) (s : ℕ) (m : Message) (h : List Event) → begins_run s m (today h) ≡ false → ((r : List Event) → value (Published m ∷ r) ≡ value r) → value (run (Published m ∷ h) s) ≡ value (run h s)
on_run value s m h e ignores = subst (λ (b : Bool). value (unwrap_or (if b then Some (Published m ∷ step_record (today h)) else option_map (λ r. Published m ∷ r) (run_in s (today h))) []) ≡ value (run h s)) (sym e) (of_run value m false (today h) (run_in s (today h)) ignores)

-- a run has a begin
pub begun-run : (s : ℕ) (h : List Event) → is_some (begun_in s h) ≡ is_some (run_in s h)
begun-run s [] = refl
begun-run s (Accepted x ∷ h) = begun-run s h ∙ elim (run_in s h) as (λ o. is_some o ≡ is_some (option_map (λ r. Accepted x ∷ r) o)) [ None ↦ refl | Some r ↦ refl ]
begun-run s (Published m ∷ h) =
    elim (begins_run s m h) as (λ b. is_some (if b then Some (now h) else begun_in s h) ≡ is_some (if b then Some (Published m ∷ step_record h) else option_map (λ r. Published m ∷ r) (run_in s h))) [
      | true ↦ refl
      | false ↦ begun-run s h ∙ elim (run_in s h) as (λ o. is_some o ≡ is_some (option_map (λ r. Published m ∷ r) o)) [ None ↦ refl | Some r ↦ refl ]
    ]

pub now-newest : (h : List Event) → now h ≡ option_map_or moment_of (newest h) 0
now-newest [] = refl
now-newest (Accepted x ∷ h) = refl
now-newest (Published m ∷ h) = now-newest h

pub newest-record : (h : List Event) → newest (step_record h) ≡ newest h
newest-record h = elim (newest h) as (λ o. newest (option_map_or (λ x. Accepted x ∷ []) o []) ≡ o) [ None ↦ refl | Some x ↦ refl ]

-- the newest record of a run is that of the history
pub newest-run : (s : ℕ) (h : List Event) → option_map_or newest (run_in s h) (newest h) ≡ newest h
newest-run s [] = refl
newest-run s (Accepted x ∷ h) = elim (run_in s h) as (λ o. option_map_or newest (option_map (λ r. Accepted x ∷ r) o) (Some x) ≡ Some x) [ None ↦ refl | Some r ↦ refl ]
newest-run s (Published m ∷ h) =
    elim (begins_run s m h) as (λ b. option_map_or newest (if b then Some (Published m ∷ step_record h) else option_map (λ r. Published m ∷ r) (run_in s h)) (newest h) ≡ newest h) [
      | true ↦ newest-record h
      | false ↦ along (run_in s h) (newest-run s h)
    ]
  where
    along : (o : Option (List Event)) → option_map_or newest o (newest h) ≡ newest h → option_map_or newest (option_map (λ r. Published m ∷ r) o) (newest h) ≡ newest h
    along None e = e
    along (Some r) e = e

-- the moment of a run is that of the history
pub now-run : (s : ℕ) (h r : List Event) → run_in s (today h) ≡ Some r → now r ≡ now h
now-run s h r e = now-newest r ∙ ap (λ (o : Option Record). option_map_or moment_of o 0) (newest_is ∙ newest-today h) ∙ sym (now-newest h)
  where
    newest_is : newest r ≡ newest (today h)
    newest_is = subst (λ (o : Option (List Event)). option_map_or newest o (newest (today h)) ≡ newest (today h)) e (newest-run s (today h))

-- a value of the run and of its begin, after a message that may begin a run and that the value ignores
pub of_begun : {X : Type 0} (value : ℕ → List Event → X) (s : ℕ) (m : Message) (h : List Event) (begins : Bool) → begins_run s m (today h) ≡ begins
    → ((t : ℕ) (r : List Event) → value t (Published m ∷ r) ≡ value t r)
    → value (begun (Published m ∷ h) s) (run (Published m ∷ h) s) ≡ (if begins then value (now (today h)) (step_record (today h)) else value (begun h s) (run h s))
of_begun {X} value s m h begins e ignores =
    subst (λ (b : Bool). value (unwrap_or (if b then Some (now (today h)) else begun_in s (today h)) 0) (unwrap_or (if b then Some (Published m ∷ step_record (today h)) else option_map (λ r. Published m ∷ r) (run_in s (today h))) []) ≡ (if begins then value (now (today h)) (step_record (today h)) else value (begun h s) (run h s))) (sym e) (at begins (run_in s (today h)))
  where
    at : (b : Bool) (o : Option (List Event)) → value (unwrap_or (if b then Some (now (today h)) else begun_in s (today h)) 0) (unwrap_or (if b then Some (Published m ∷ step_record (today h)) else option_map (λ r. Published m ∷ r) o) []) ≡ (if b then value (now (today h)) (step_record (today h)) else value (begun h s) (unwrap_or o []))
    at true o = ignores (now (today h)) (step_record (today h))
    at false None = refl
    at false (Some r) = ignores (begun h s) r
