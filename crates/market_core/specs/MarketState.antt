-- What a market keeps, and how it stands for the list of applied records, the newest first.
use Rattle.std.specs.Prelude.{◌≡◌, ℕ, ◌+◌, ◌*◌, ◌≤◌, Option, Some, List, length, option_map, slice_get}
use Rattle.session_core.specs.declared.day.Day.{Day}
use Rattle.wire_in.specs.declared.record.Record.{Record}
use Rattle.rulebook.specs.Admission.{names, most_names}
use Rattle.rulebook.specs.Book.{named, history}
use Rattle.rulebook.specs.Market.{day_record, market_halt, greatest_declared}
use Rattle.symbol_core.specs.Evaluates.{most_of_symbol}
use Rattle.symbol_core.specs.Rests.{Rests, SymbolState}
use Rattle.symbol_core.specs.Silent.{SaysNothing}
use Rattle.market_core.specs.declared.lead.Today.{Today}

-- the names ever listed, the last day with its breakers, and what is kept of each name's symbol, in order of ids
pub record MarketState : Type 0 where
  pub directory : List (List ℕ)
  pub today : Option Today
  pub symbols : List SymbolState

-- the most messages of a record, where so many names were ever listed: two of the market, and those of each symbol
abbrev pub most_of_names : ℕ → ℕ
most_of_names count = 2 + most_of_symbol * count

-- the most messages of a record
abbrev pub most_messages : ℕ
most_messages = most_of_names most_names

-- the day with the breakers that a history gives it
abbrev pub day_of : List Record → Day × ℕ → Today
day_of applied (day, index_close) = record {
  day = day;
  breaker = record { index_close = index_close; greatest = greatest_declared (history applied); halt = market_halt (history applied) };
}

-- what is kept of each symbol is what the history says of the names with its id
pub record SymbolsRepresent (symbols : List SymbolState) (applied : List Record) : Type 0 where
  pub ids : (s : ℕ) (held : SymbolState) → slice_get symbols s ≡ Some held → held.kept.id ≡ s
  pub rests : (s : ℕ) (held : SymbolState) → slice_get symbols s ≡ Some held → Rests (named applied s).own held (history applied)

-- each kept value is the one that the list of applied records gives, and of an id that no name has there is nothing to keep
pub record Represents (kept : MarketState) (applied : List Record) : Type 0 where
  pub directory : kept.directory ≡ names applied
  pub today : kept.today ≡ option_map (day_of applied) (day_record applied)
  pub count : length kept.symbols ≡ length (names applied)
  pub symbols : SymbolsRepresent kept.symbols applied
  pub others : (s : ℕ) → length (names applied) ≤ s → SaysNothing (named applied s).own s (history applied)
