use Rattle.std.proofs.Common.{Bool, [], ◌∷◌, ap, ◌∙◌}
use Rattle.std.specs.Prelude.{if◌then◌else◌}
use Rattle.wire_out.specs.declared.message.Message.TheVariants as out
use Rattle.wire_out.specs.declared.message.ShortKind.TheVariants.{Triggered}
use Rattle.rulebook.specs.Rules as rules
use Rattle.symbol_core.proofs.Chains.{obeys}
use Rattle.symbol_core.proofs.Gives.{restrict-gives}
use Rattle.symbol_core.specs.InStep.{in_step}
use Rattle.symbol_core.proofs.state.Kept.restrict.Goals as goal

pub returns-then-opened-clause-obeys : goal.returns-then-opened-clause-obeys
returns-then-opened-clause-obeys c =
    let k = c.args.self.now in
    obeys rules.restrict c.requires.goes_on c.requires.goes_on (c.say_triggered.ensures.says c.args.opened.now)
    (λ mine deals h s. restrict-gives (in_step k c.args.opened.now) c.args.step.now mine deals h s ∙ ap (λ (b : Bool). if b then out.Short k.id Triggered ∷ [] else []) c.if-opened.true)
