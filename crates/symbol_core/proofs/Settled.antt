-- Once a trading stock has published bands, a limit state and a straddle state, no rule says anything at a tick.
use Rattle.std.proofs.Common.{◌≡◌, Bool, true, false, refl, sym, ap, ◌∙◌, subst}
use Rattle.std.specs.Prelude.{◌&&◌}
use Rattle.session_core.specs.declared.state.Phase.{Phase}
use Rattle.session_core.specs.declared.state.Phase.TheVariants.{Shut, Trading, LimitLow, LimitHigh, Paused, Halted, Stopped, Closing, Closed}
use Rattle.pause_core.specs.Phases.{can_market_halt, is_in_regulatory_halt, is_trading}
use Rattle.symbol_core.specs.declared.state.Kept.{Kept}
use Rattle.symbol_core.specs.Idle.{HasEntered, IsSettled}
use Rattle.symbol_core.specs.Kept.{is_straddling_now}

trading_halts : (p : Phase) → is_trading p ≡ true → can_market_halt p ≡ true
trading_halts Shut e = absurd cc
trading_halts Trading e = refl
trading_halts LimitLow e = absurd cc
trading_halts LimitHigh e = absurd cc
trading_halts Paused e = absurd cc
trading_halts Halted e = absurd cc
trading_halts Stopped e = absurd cc
trading_halts Closing e = absurd cc
trading_halts Closed e = absurd cc

trading_goes_on : (p : Phase) → is_trading p ≡ true → is_in_regulatory_halt p ≡ false
trading_goes_on Shut e = absurd cc
trading_goes_on Trading e = refl
trading_goes_on LimitLow e = absurd cc
trading_goes_on LimitHigh e = absurd cc
trading_goes_on Paused e = absurd cc
trading_goes_on Halted e = absurd cc
trading_goes_on Stopped e = absurd cc
trading_goes_on Closing e = absurd cc
trading_goes_on Closed e = absurd cc

not_stopped : (stopped halts any : Bool) → (stopped && halts) ≡ false → halts ≡ true → (stopped && any) ≡ false
not_stopped false halts any e f = refl
not_stopped true true any e f = absurd cc
not_stopped true false any e f = absurd cc

pub settles : (k priced entered last : Kept) (stopped : Bool) → IsSettled k stopped → is_trading k.phase ≡ true → priced ≡ record k { run = priced.run } → HasEntered priced entered → last ≡ record entered { straddling = is_straddling_now entered }
    → IsSettled last stopped
settles k priced entered last stopped settled trading rest has is =
    subst (λ (l : Kept). IsSettled l stopped) (sym is) (record {
      runs = not_stopped stopped (can_market_halt k.phase) (can_market_halt entered.phase) settled.runs (trading_halts k.phase trading);
      halted = has.halted ∙ ap (λ (l : Kept). l.halted) rest ∙ settled.halted ∙ trading_goes_on k.phase trading ∙ sym has.no_halt;
      stays = has.stays;
      low = has.low;
      high = has.high;
      straddles = refl;
    })
