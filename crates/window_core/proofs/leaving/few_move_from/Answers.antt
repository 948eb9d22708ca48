use Rattle.std.proofs.Common.{◌+◌, ◌<◌, ◌∙◌, drop, length, sym, arith}
use Rattle.window_core.proofs.Leaves.{all_left, count_left, first_leaves, next_left, second_false}
use Rattle.window_core.proofs.leaving.few_move_from.Goals as goal

pub loop-index-init : goal.loop-index-init
loop-index-init c = all_left c.args.reference c.args.from c.args.all.now.sum c.args.all.now.count c.args.deals.now.items c.requires.queue

pub few_have_moved-requires-clause-few : goal.few_have_moved-requires-clause-few
few_have_moved-requires-clause-few c =
    let left = count_left c.loop-index.index 8 c.loop-index.sum c.loop-index.count c.args.deals.now.items c.loop-index.invariant.queue.tallies c.requires.few in
    omega arith

pub few_have_moved-requires-clause-most : goal.few_have_moved-requires-clause-most
few_have_moved-requires-clause-most c = c.loop-index.invariant.queue.tallies.greatest

pub loop-index-preserved : goal.loop-index-preserved
loop-index-preserved c =
    let now = c.loop-index in
    let deals = c.args.deals.now.items in
    let own = c.index-deal.result.now in
    let leaves = c.nanos-leaves.ensures.value in
    let within : now.index < length deals = omega (arith, c.loop-index-test.true, c.len-index-end.ensures) in
    let are = next_left c.args.reference c.args.from now.begin now.sum now.count now.index deals own within c.index-deal.ensures now.invariant in
    let count = are.queue.tallies.count_is in
    first_leaves c.args.reference c.args.from now.begin now.sum now.count c.max-begin.result c.units-sum.result deals (drop (now.index + 1) deals) own
    (omega (arith, c.max-begin.ensures, leaves)) c.units-sum.ensures.value
    (λ before. sym (c.few_have_moved.ensures (omega arith)) ∙ second_false now.begin (c.nanos-leaves.result + 300000000000) c.few_have_moved.result c.if-begin-leaves.false (omega (arith, before, leaves))) are
