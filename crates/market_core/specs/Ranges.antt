-- Stocks in ranges of ids that lie one behind the other.
use Rattle.std.specs.Prelude.{◌≡◌, ℕ, ◌+◌, List, ◌++◌, length}
use Rattle.wire_in.specs.declared.record.Record.{Record}
use Rattle.wire_out.specs.declared.message.Stamped.{Stamped}
use Rattle.symbol_core.specs.declared.symbol.MarketView.{MarketView}
use Rattle.symbol_core.specs.Rests.{SymbolState}
use Rattle.market_core.specs.Applied.{AppendsBelow, AppendsOne}

-- where all stocks of a range are evaluated and then all of the next one, all stocks of both are evaluated in order
abbrev pub RangesInTurnAreAll : Type 0
RangesInTurnAreAll =
    (market : MarketView) (x : Record) (first first' second second' : List SymbolState) (before middle after : List Stamped) → length first' ≡ length first
    → AppendsBelow (length first) market x first first' before middle → AppendsBelow (length second) market x second second' middle after
    → AppendsBelow (length (first ++ second)) market x (first ++ second) (first' ++ second') before after

-- where one stock of a range is evaluated, that one of all stocks is evaluated
abbrev pub OneOfARangeIsOneOfAll : Type 0
OneOfARangeIsOneOfAll =
    (place : ℕ) (market : MarketView) (x : Record) (earlier old new later : List SymbolState) (before after : List Stamped)
    → AppendsOne place market x old new before after → AppendsOne (length earlier + place) market x (earlier ++ (old ++ later)) (earlier ++ (new ++ later)) before after
