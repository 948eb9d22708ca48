use Rattle.std.proofs.Common.{◌∷◌, []}
use Rattle.session_core.specs.declared.state.Phase.TheVariants.{Trading}
use Rattle.wire_out.specs.declared.message.Message.TheVariants as out
use Rattle.symbol_core.proofs.Chains.{then_of}
use Rattle.symbol_core.proofs.state.Kept.release.Goals as goal

pub returns-clause-says : goal.returns-clause-says
returns-clause-says c = then_of (λ i. out.State i Trading ∷ []) c.say_release.ensures.says c.becomes.ensures.says
