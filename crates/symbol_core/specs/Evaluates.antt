-- What a record does to a symbol.
use Rattle.std.specs.Prelude.{◌≡◌, ◌++◌, ◌≤◌, ℕ, Bool, true, false, Some, List, [], ◌∷◌, if◌then◌else◌, not, ◌&&◌, is_some}
use Rattle.std.specs.Option.{option_map_or}
use Rattle.session_core.specs.declared.day.Day.{Day}
use Rattle.wire_in.specs.declared.record.Record.{Record}
use Rattle.wire_in.specs.Records.{is_day, is_tick, moment_of, name_of}
use Rattle.wire_out.specs.declared.message.Message.{Message}
use Rattle.rulebook.specs.declared.event.Event.{Event}
use Rattle.rulebook.specs.declared.event.Event.TheVariants.{Accepted}
use Rattle.rulebook.specs.Book.{Named, all_obeyed, announced, symbol_rules}
use Rattle.rulebook.specs.History.{now, publish, records}
use Rattle.rulebook.specs.Market.{day_record, is_market_halted}
use Rattle.rulebook.specs.Symbol.{terms}
use Rattle.symbol_core.specs.declared.symbol.MarketView.{MarketView}
use Rattle.symbol_core.specs.Rests.{Rests, SymbolState}
use Rattle.symbol_core.specs.Silent.{AllSilent}
use Rattle.symbol_core.specs.Stands.{named}

-- the most messages of one symbol at a record
abbrev pub most_of_symbol : ℕ
most_of_symbol = 16

-- the open history of a record: the history before it, the record, and what the open step has published of others
abbrev pub open_history : Record → List Message → List Event → List Event
open_history x others h = publish others (Accepted x ∷ h)

-- what a step publishes of s: what the record announces, and then what the rules give
abbrev pub step_of : Day → Named → Record → List Event → List Message
step_of day s x h = announced s x h ++ all_obeyed day s x symbol_rules (publish (announced s x h) h)

-- the same, but nothing at a market-wide record unless s is listed today
abbrev pub part_of : Day → Named → Record → List Event → List Message
part_of day s x h = if is_tick x && not (is_some (terms h s.own)) then [] else step_of day s x h

-- a record other than a day comes after a history that the symbol rests on
pub record Opens (own : List ℕ → Bool) (held : SymbolState) (market : MarketView) (x : Record) (others : List Message) (h : List Event) : Type 0 where
  pub rests : Rests own held h
  pub silent : AllSilent held.kept.id others
  pub no_day : is_day x ≡ false
  pub name : option_map_or own (name_of x) true ≡ true
  pub index : ℕ
  pub day : day_record (records h) ≡ Some (market.day, index)
  pub stopped : market.stopped ≡ is_market_halted (open_history x others h)
  pub later : now h ≤ moment_of x

-- A record is evaluated: what the symbol says is its part of the step, and it then rests on the history with that. A day
-- record begins its day, and it says nothing.
pub record Evaluates (market : MarketView) (x : Record) (old new : SymbolState) (before after : List Message) : Type 0 where
  pub says : (own : List ℕ → Bool) (others : List Message) (h : List Event) → Opens own old market x others h
      → after ≡ before ++ part_of market.day (named own old.kept.id) x (open_history x others h)
  pub rests : (own : List ℕ → Bool) (others : List Message) (h : List Event) → Opens own old market x others h
      → Rests own new (publish (part_of market.day (named own old.kept.id) x (open_history x others h)) (open_history x others h))
  pub says_no_day : is_day x ≡ true → after ≡ before
  pub begins : is_day x ≡ true → (own : List ℕ → Bool) (h : List Event) → Rests own old h → Rests own new (Accepted x ∷ h)
  pub id : new.kept.id ≡ old.kept.id
