use Rattle.std.proofs.Common.{rules, ◌<◌, length}
use Rattle.merge_core.proofs.Scanning.{less, no_less, looked_at, nothing_found, as_is}
use Rattle.merge_core.proofs.order.first_of_least.Goals as goal
use Rattle.merge_core.proofs.order.first_of_least.Goals.{then-input-least, else-input-least}

pub loop-nth-preserved : goal.loop-nth-preserved
loop-nth-preserved c =
    let lists = c.args.lists.now in
    let old = c.loop-nth in
    let list = c.index-lists-nth.result in
    let input = c.next_input-input in
    let within : old.nth < length lists = search rules in
    let at = looked_at lists old.nth list within c.index-lists-nth.is in
    elim c.if-input-least.branch [
      | then-input-least w ↦ as_is _ _ _ _ _ lists w.first-is w.least-is (less old.first old.nth old.least input.result list.now lists old.invariant c.requires within at input.ensures.is w.if-input-least.true)
      | else-input-least w ↦ as_is _ _ _ _ _ lists w.first-is w.least-is (no_less old.first old.nth old.least input.result list.now lists old.invariant c.requires within at input.ensures.is input.ensures.small w.if-input-least.false)
    ]

pub returns-else-least-clause-none : goal.returns-else-least-clause-none
returns-else-least-clause-none c = λ _. nothing_found c.loop-nth.first c.loop-nth.nth c.loop-nth.least c.args.lists.now c.loop-nth.invariant (search rules) c.if-least.false
