use Rattle.std.proofs.Common.{◌≡◌, true, false, [], refl, sym, ◌∙◌}
use Rattle.std.specs.Prelude.{if◌then◌else◌, ◌&&◌, not}
use Rattle.session_core.specs.declared.state.Phase.TheVariants.{Trading}
use Rattle.pause_core.specs.Phases.{is_limit}
use Rattle.rulebook.specs.Rules as rules
use Rattle.rulebook.specs.Rules.{at_band}
use Rattle.symbol_core.specs.InStep.{in_step}
use Rattle.symbol_core.specs.Kept.{becoming}
use Rattle.symbol_core.specs.Runs.{run_band, run_quote}
use Rattle.symbol_core.proofs.Chains.{obeys}
use Rattle.symbol_core.proofs.Gives.{leave-gives}
use Rattle.symbol_core.proofs.state.Kept.leave_limit.Goals as goal

pub returns-then-not-is_at_band-clause-obeys : goal.returns-then-not-is_at_band-clause-obeys
returns-then-not-is_at_band-clause-obeys c =
    let k = c.args.self.now in
    let limit : is_limit k.phase ≡ true = sym c.is_limit.ensures ∙ c.if-is_limit.true in
    let away : at_band k.phase (run_quote k) (run_band k) ≡ false = sym c.is_at_band.ensures ∙ c.if-not-is_at_band.true in
    obeys rules.leave_limit c.requires.goes_on refl c.becomes.ensures.says
    (λ mine deals h s. leave-gives (in_step k c.args.opened.now) c.args.step.now mine deals h s
    ∙ (λ i. if limit i && not (away i) then becoming k Trading else []))
