-- The end of a step: the kept state rests on the history.
use Rattle.std.proofs.Common.{◌≡◌, ℕ, Bool, false, List, [], sym, ap, ◌∙◌, subst}
use Rattle.std.specs.Prelude.{Option, Some}
use Rattle.std.specs.Option.{option_map_or}
use Rattle.session_core.specs.declared.day.Day.{Day}
use Rattle.window_core.specs.declared.window.Deal.{Deal}
use Rattle.rulebook.specs.declared.event.Event.{Event}
use Rattle.rulebook.specs.History.{now, records}
use Rattle.rulebook.specs.Market.{day_record}
use Rattle.rulebook.specs.Rules.{triggered_in}
use Rattle.rulebook.specs.Symbol.{deals_of}
use Rattle.symbol_core.specs.declared.state.Step.{Step}
use Rattle.symbol_core.specs.InStep.{InStep}
use Rattle.symbol_core.specs.Rests.{Rests}
use Rattle.symbol_core.specs.Stands.{Stands}
use Rattle.symbol_core.specs.Window.{SameLive, window}
use Rattle.symbol_core.proofs.Live.{same_then}

pub rests-finished : (mine : List ℕ → Bool) (k : InStep) (kept left : List Deal) (step : Step) (index : ℕ) (h : List Event) → day_record (records h) ≡ Some (step.day, index)
    → SameLive step.moment left (window k kept) → Stands mine k kept step h → Rests mine (record { kept = k.kept; deals = left; spare = 0 }) h
rests-finished mine k kept left step index h day same s =
    record {
      terms = s.terms;
      phase = s.phase;
      since = s.since;
      begun = s.begun;
      quote = s.quote;
      band = s.band;
      adopted = s.adopted;
      straddling = s.straddling;
      halted = s.halted;
      auction = s.auction;
      prior_close = s.prior_close;
      triggered = s.triggered ∙ ap (λ (o : Option (Day × ℕ)). option_map_or (λ d. triggered_in mine d.0 k.kept.id (records h)) o false) (sym day);
      carried = s.carried;
      deals =
          subst (λ (o : Option (Day × ℕ)). SameLive (now h) left (option_map_or (λ d. deals_of d.0 h k.kept.id) o [])) (sym day)
          (same_then (now h) left (window k kept) (deals_of step.day h k.kept.id) (subst (λ (t : ℕ). SameLive t left (window k kept)) s.moment same) s.window);
    }
