use Rattle.std.proofs.Common.{◌≡◌, Bool, true, false, sym, ap, ◌∙◌}
use Rattle.std.specs.Prelude.{◌&&◌}
use Rattle.pause_core.specs.Phases.{is_trading}
use Rattle.symbol_core.specs.Pricing.{time_changes}
use Rattle.symbol_core.proofs.Banding.{bands-last, bands-none}
use Rattle.symbol_core.proofs.state.Kept.band_by_time.Goals as goal
use Rattle.symbol_core.proofs.state.Kept.band_by_time.Goals.{else-is_trading-via-then-is_trading+else-time_changes, else-is_trading-via-else-is_trading}

pub returns-in_default-clause-bands : goal.returns-in_default-clause-bands
returns-in_default-clause-bands c = bands-none c.args.self.now c.args.step.now (sym c.last_band.ensures ∙ c.in_default.is)

pub returns-else-is_trading-clause-bands : goal.returns-else-is_trading-clause-bands
returns-else-is_trading-clause-bands c =
    let k = c.args.self.now in
    let step = c.args.step.now in
    let last = c.in-Some.last in
    let stays : (is_trading k.phase && time_changes k step last) ≡ false = elim c.else-is_trading.branch [
      | else-is_trading-via-then-is_trading+else-time_changes w ↦
          let trades : is_trading k.phase ≡ true = sym c.is_trading.ensures ∙ w.if-is_trading.true in
          let same : time_changes k step last ≡ false = sym w.time_changes.ensures ∙ w.if-time_changes.false in
          λ i. trades i && same i
      | else-is_trading-via-else-is_trading w ↦ ap (λ (b : Bool). b && time_changes k step last) (sym c.is_trading.ensures ∙ w.if-is_trading.false)
    ] in
    bands-last k step last (sym c.last_band.ensures ∙ c.in-Some.is) stays
