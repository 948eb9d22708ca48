use Rattle.std.proofs.Common.{◌∷◌, ◌++◌, List, map, ap, ◌∙◌}
use Rattle.merge_core.specs.declared.tagged.Tagged.{Tagged}
use Rattle.merge_core.proofs.InOrder.{merges, parts_joined}
use Rattle.merge_core.proofs.order.in_order.Goals as goal

pub returns : goal.returns
returns c =
    merges (c.args.market.now ∷ map (λ part. part.items) c.args.parts.now) c.in_ok-all.all.items c.sort_by_input.new.messages.items
    (c.in_ok-all.ensures ∙ ap (λ (ys : List Tagged). c.args.market.now ++ ys) (parts_joined (λ part. part.items) c.args.parts.now))
    c.in_ok-sort_by_input.ensures.permutation c.in_ok-sort_by_input.ensures.rises c.in_ok-sort_by_input.ensures.same
