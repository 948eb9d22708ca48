use Rattle.std.proofs.Common.{◌≡◌, true, false, [], refl, sym, ap, ◌∙◌}
use Rattle.std.specs.Prelude.{if◌then◌else◌, not}
use Rattle.session_core.specs.declared.state.Phase.TheVariants.{LimitLow, LimitHigh}
use Rattle.pause_core.specs.Phases.{is_trading}
use Rattle.rulebook.specs.Rules as rules
use Rattle.rulebook.specs.Rules.{at_band}
use Rattle.symbol_core.specs.Kept.{becoming}
use Rattle.symbol_core.specs.Runs.{run_band, run_quote}
use Rattle.symbol_core.proofs.Chains.{obeys}
use Rattle.symbol_core.proofs.Gives.{enter-gives}
use Rattle.symbol_core.specs.InStep.{in_step}
use Rattle.symbol_core.proofs.Banding.{bands-turned}
use Rattle.symbol_core.proofs.state.Kept.enter_limit.Goals as goal

pub returns-then-is_at_band-clause-obeys : goal.returns-then-is_at_band-clause-obeys
returns-then-is_at_band-clause-obeys c =
    let k = c.args.self.now in
    let trading : not (is_trading k.phase) ≡ false = ap not (sym c.is_trading.ensures ∙ c.if-not-is_trading.false) in
    let low : at_band LimitLow (run_quote k) (run_band k) ≡ true = sym c.is_at_band.ensures ∙ c.if-is_at_band.true in
    obeys rules.enter_limit c.requires.goes_on refl c.becomes.ensures.says
    (λ mine deals h s. enter-gives (in_step k c.args.opened.now) c.args.step.now mine deals h s
    ∙ (λ i. if trading i then [] else if low i then becoming k LimitLow else if at_band LimitHigh (run_quote k) (run_band k) then becoming k LimitHigh else []))

pub returns-then-is_at_band-2-clause-obeys : goal.returns-then-is_at_band-2-clause-obeys
returns-then-is_at_band-2-clause-obeys c =
    let k = c.args.self.now in
    let trading : not (is_trading k.phase) ≡ false = ap not (sym c.is_trading.ensures ∙ c.if-not-is_trading.false) in
    let low : at_band LimitLow (run_quote k) (run_band k) ≡ false = sym c.is_at_band.ensures ∙ c.if-is_at_band.false in
    let high : at_band LimitHigh (run_quote k) (run_band k) ≡ true = sym c.is_at_band-else-is_at_band.ensures ∙ c.if-is_at_band-2.true in
    obeys rules.enter_limit c.requires.goes_on refl c.becomes-then-is_at_band-2.ensures.says
    (λ mine deals h s. enter-gives (in_step k c.args.opened.now) c.args.step.now mine deals h s
    ∙ (λ i. if trading i then [] else if low i then becoming k LimitLow else if high i then becoming k LimitHigh else []))

pub returns-then-is_at_band-clause-bands : goal.returns-then-is_at_band-clause-bands
returns-then-is_at_band-clause-bands c = λ none. bands-turned c.becomes.new.self c.args.step.now LimitLow c.becomes.ensures.says.phase refl

pub returns-then-is_at_band-2-clause-bands : goal.returns-then-is_at_band-2-clause-bands
returns-then-is_at_band-2-clause-bands c = λ none. bands-turned c.becomes-then-is_at_band-2.new.self c.args.step.now LimitHigh c.becomes-then-is_at_band-2.ensures.says.phase refl
