use Rattle.std.proofs.Common.{◌∷◌, []}
use Rattle.wire_out.specs.declared.message.Message.TheVariants as out
use Rattle.wire_out.specs.declared.message.ShortKind.TheVariants.{Carried}
use Rattle.symbol_core.proofs.Chains.{then_of}
use Rattle.symbol_core.proofs.state.Kept.announce_carried.Goals as goal

pub returns-clause-says : goal.returns-clause-says
returns-clause-says c = λ opened. then_of (λ i. out.Short i Carried ∷ []) (c.say_listed.ensures.says opened) (c.say_carried.ensures.says opened)
