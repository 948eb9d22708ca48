-- The rounds of the history of a list of records stand at their times.
use Rattle.std.proofs.Common.{◌≡◌, ℕ, Bool, true, false, cond, List, [], ◌∷◌, Option, Some, None, sym, subst}
use Rattle.std.specs.Option.{option_map_or}
use Rattle.wire_in.specs.declared.record.Record.{Record}
use Rattle.wire_in.specs.Records.{is_day, is_tick}
use Rattle.rulebook.specs.declared.event.Event.{Event}
use Rattle.rulebook.specs.declared.event.Event.TheVariants.{Accepted}
use Rattle.rulebook.specs.History.{records, publish}
use Rattle.rulebook.specs.Book.{Named, evaluate, announced, evaluate_own, named, evaluate_all, listed_ids, evaluate_market, target, step, history}
use Rattle.afresh_core.specs.Rounds.{AreTimely}
use Rattle.afresh_core.proofs.Timely.{timely_evaluate, timely_announced, timely_market}

timely_evaluate_all : (x : Record) (ids : List ℕ) (h : List Event) → AreTimely h → AreTimely (evaluate_all x ids h)
timely_evaluate_all x [] h t = t
timely_evaluate_all x (s ∷ later) h t = timely_evaluate_all x later (evaluate x (named (records h) s) h) (timely_evaluate x (named (records h) s) h t)

timely_evaluate_own : (x : Record) (s : Named) (h : List Event) → AreTimely h → AreTimely (evaluate_own x s h)
timely_evaluate_own x s h t = timely_evaluate x s (publish (announced s x h) h) (timely_announced s x h t)

timely_step : (x : Record) (h : List Event) → AreTimely h → AreTimely (step x h)
timely_step x h t = by_day (is_day x) where
  opened : List Event
  opened = Accepted x ∷ h

  by_id : (o : Option ℕ) → AreTimely (option_map_or (λ s. evaluate_own x (named (records opened) s) opened) o opened)
  by_id None = t
  by_id (Some s) = timely_evaluate_own x (named (records opened) s) opened t

  by_tick : (b : Bool) → AreTimely (cond b (evaluate_all x (listed_ids (records opened)) (evaluate_market x opened)) (option_map_or (λ s. evaluate_own x (named (records opened) s) opened) (target (records opened) x) opened))
  by_tick true = timely_evaluate_all x (listed_ids (records opened)) (evaluate_market x opened) (timely_market x opened t)
  by_tick false = by_id (target (records opened) x)

  by_day : (b : Bool) → AreTimely (cond b opened (cond (is_tick x) (evaluate_all x (listed_ids (records opened)) (evaluate_market x opened)) (option_map_or (λ s. evaluate_own x (named (records opened) s) opened) (target (records opened) x) opened)))
  by_day true = t
  by_day false = by_tick (is_tick x)

pub timely_history : (A : List Record) → AreTimely (history A)
timely_history [] = tt
timely_history (x ∷ A) = timely_step x (history A) (timely_history A)

-- the history of all but the last record, before that one is opened
pub timely_before : (earlier : List Record) (h : List Event) → h ≡ history earlier → AreTimely h
timely_before earlier h is = subst AreTimely (sym is) (timely_history earlier)
