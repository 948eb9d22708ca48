-- Stocks with the moments before which ticks bring them nothing.
use Rattle.std.specs.Prelude.{◌≡◌, ℕ, ◌<◌, ◌≤◌, Option, Some, None, List, slice_get, slice_index}
use Rattle.wire_in.specs.declared.record.Record.{Record}
use Rattle.wire_out.specs.declared.message.Message.{Message}
use Rattle.symbol_core.specs.declared.symbol.MarketView.{MarketView}
use Rattle.symbol_core.specs.Evaluates.{Evaluates}
use Rattle.symbol_core.specs.Rests.{SymbolState}
use Rattle.symbol_core.specs.Ticks.{Idles}
use Rattle.market_core.specs.declared.since.Since.{Since}

-- the stocks of a section, for how many more there is room, and from when on and over which market its alarms hold
pub record SectionState : Type 0 where
  pub symbols : List SymbolState
  pub spare : ℕ
  pub since : Option Since

-- ticks from then on over that market and before that moment bring a stock nothing
abbrev pub IdlesUntil : Option Since → ℕ → SymbolState → Type 0
IdlesUntil None alarm held = Unit {0}
IdlesUntil (Some since) alarm held = Idles since.market since.from alarm held

-- each stock idles until its alarm
abbrev pub EachIdles : Option Since → List ℕ → List SymbolState → Type 0
EachIdles since alarms symbols = (place : ℕ) (held : SymbolState) → slice_get symbols place ≡ Some held → IdlesUntil since (slice_index alarms place) held

-- a tick brings the stocks of the places from one on and before another nothing
abbrev pub NoneMoves : MarketView → Record → ℕ → ℕ → List SymbolState → Type 0
NoneMoves market x from before symbols =
    (place : ℕ) (held : SymbolState) → from ≤ place → place < before → slice_get symbols place ≡ Some held → (said : List Message) → Evaluates market x held held said said
