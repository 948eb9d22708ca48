use Rattle.std.proofs.Common.{arith}
use Rattle.gen_core.proofs.Given.{fresh}
use Rattle.gen_core.proofs.Listed.{generated_length}
use Rattle.gen_core.proofs.generator.Generator.new.Goals as goal

pub invariant_of-result : goal.invariant_of-result
invariant_of-result c = (fresh c.args.plan.now c.in_ok-flags.flags.items c.requires (c.in_ok-flags.ensures.items_if_clones_equal (λ y same. same)), c.gap_of.ensures, omega arith)

pub returns-clause-count : goal.returns-clause-count
returns-clause-count c = generated_length c.args.plan.now
