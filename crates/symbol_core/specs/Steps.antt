-- What the code does at a record that is evaluated. Private words: no public clause cites them.
use Rattle.std.specs.Prelude.{◌≡◌, ◌++◌, ◌≤◌, ℕ, Bool, true, false, Some, List}
use Rattle.std.specs.Option.{option_map_or}
use Rattle.wire_in.specs.declared.record.Record.{Record}
use Rattle.wire_in.specs.Records.{is_day, moment_of, name_of}
use Rattle.wire_out.specs.declared.message.Message.{Message}
use Rattle.window_core.specs.declared.window.Deal.{Deal}
use Rattle.rulebook.specs.declared.event.Event.{Event}
use Rattle.rulebook.specs.History.{now, publish, records}
use Rattle.rulebook.specs.Market.{day_record, is_market_halted}
use Rattle.symbol_core.specs.declared.state.Kept.{Kept}
use Rattle.symbol_core.specs.declared.state.Step.{Step}
use Rattle.symbol_core.specs.declared.symbol.MarketView.{MarketView}
use Rattle.symbol_core.specs.Evaluates.{open_history, step_of}
use Rattle.symbol_core.specs.Rests.{Rests}
use Rattle.symbol_core.specs.Silent.{AllSilent}
use Rattle.symbol_core.specs.Stands.{named}

-- the step of a record
abbrev pub step_for : MarketView → Record → Step
step_for market x = record { moment = moment_of x; day = market.day; stopped = market.stopped; input = x }

-- the step is that of a record of the day, other than the day record, on a history that the symbol rests on
pub record Starts (own : List ℕ → Bool) (k : Kept) (kept : List Deal) (step : Step) (others : List Message) (h : List Event) : Type 0 where
  pub rests : Rests own (record { kept = k; deals = kept; spare = 0 }) h
  pub silent : AllSilent k.id others
  pub no_day : is_day step.input ≡ false
  pub name : option_map_or own (name_of step.input) true ≡ true
  pub index : ℕ
  pub day : day_record (records h) ≡ Some (step.day, index)
  pub moment : step.moment ≡ moment_of step.input
  pub stopped : step.stopped ≡ is_market_halted (open_history step.input others h)
  pub later : now h ≤ step.moment

-- A record is taken in and the rules are obeyed: what they publish is said, and the symbol rests on the history with both.
pub record Steps (step : Step) (old new : Kept) (kept left : List Deal) (before after : List Message) : Type 0 where
  pub says : (own : List ℕ → Bool) (others : List Message) (h : List Event) → Starts own old kept step others h
      → after ≡ before ++ step_of step.day (named own old.id) step.input (open_history step.input others h)
  pub rests : (own : List ℕ → Bool) (others : List Message) (h : List Event) → Starts own old kept step others h
      → Rests own (record { kept = new; deals = left; spare = 0 }) (publish (step_of step.day (named own old.id) step.input (open_history step.input others h)) (open_history step.input others h))
  pub id : new.id ≡ old.id
