use Rattle.std.proofs.Common.{arith}
use Rattle.std.proofs.lemmas.List.Sorted.{length_permutation}
use Rattle.cross_core.proofs.steps.steps.Goals as goal

pub returns-clause-few : goal.returns-clause-few
returns-clause-few c = omega (arith, length_permutation c.in_ok-steps.steps.items c.sort.new.steps.items c.sort.ensures.same, c.in_ok-steps.ensures.few)
