-- Ticks that bring a stock nothing.
use Rattle.std.specs.Prelude.{◌≡◌, ◌<◌, ◌≤◌, ℕ, true, false}
use Rattle.wire_in.specs.declared.record.Record.{Record}
use Rattle.wire_in.specs.Records.{is_tick, moment_of}
use Rattle.symbol_core.specs.declared.symbol.MarketView.{MarketView}
use Rattle.symbol_core.specs.Idle.{IsQuiet, is_out}
use Rattle.symbol_core.specs.InStep.{at_rest}
use Rattle.symbol_core.specs.Rests.{SymbolState}
use Rattle.symbol_core.specs.Steps.{step_for}

-- at ticks over a market from a moment on and before another no rule says anything of a stock that is listed and whose day isn't over
abbrev pub Idles : MarketView → ℕ → ℕ → SymbolState → Type 0
Idles market from until held =
    is_out held.kept ≡ false → (x : Record) → is_tick x ≡ true → from ≤ moment_of x → moment_of x < until → IsQuiet (at_rest held.kept) held.deals (step_for market x)
