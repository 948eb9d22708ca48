use Rattle.std.proofs.Common.{rules}
use Rattle.std.proofs.lemmas.List.Sorted.{IsNonDecreasingBy-from_sort_by_key, answers_always}
use Rattle.merge_core.specs.declared.tagged.Tagged.{Tagged}
use Rattle.merge_core.proofs.InOrder.{keeps_order}
use Rattle.merge_core.proofs.order.sort_by_input.Goals as goal

pub returns-clause-rises : goal.returns-clause-rises
returns-clause-rises c = IsNonDecreasingBy-from_sort_by_key (λ (m : Tagged). m.input) _ c.in_ok-sort_by_key.ensures.sorted (λ a r q k. search rules)

pub returns-clause-same : goal.returns-clause-same
returns-clause-same c =
    keeps_order _ _ c.sort_by_key.ensures.permutation (c.sort_by_key.ensures.stable (λ (m : Tagged). m.input) (answers_always _ _ _ (λ f a r k q. search rules)))
