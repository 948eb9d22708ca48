use Rattle.std.proofs.Common.{◌≡◌, ◌∙◌, ℕ, List, ap, arith, length, map, subst, sym}
use Rattle.std.specs.List.Sorted.{IsPermutation}
use Rattle.std.proofs.lemmas.List.{length-map}
use Rattle.cross_core.specs.declared.order.Row.{Row}
use Rattle.cross_core.specs.Best.{AreCandidates}
use Rattle.cross_core.specs.Steps.{steps_of}
use Rattle.cross_core.specs.Sums.{row_at}
use Rattle.cross_core.proofs.Collected.{stops_are_candidates}
use Rattle.cross_core.proofs.Joined.{IsFirst, is_cross, some_candidate}
use Rattle.cross_core.proofs.crossing.cross.Goals as goal

pub first-first-requires : goal.first-first-requires
first-first-requires c =
    let prices = c.in_ok-prices.prices.items in
    let are : AreCandidates c.args.reference c.args.collars.now c.args.orders.now prices =
    stops_are_candidates c.args.reference c.args.collars.now c.args.orders.now c.deref.result.now prices
    (subst (IsPermutation (steps_of c.args.orders.now)) (sym c.deref.ensures.value) c.in_ok-steps.ensures.same)
    c.in_ok-prices.ensures.stops c.in_ok-prices.ensures.rising in
    let rows : c.list.result.now ≡ map (row_at c.args.orders.now) prices =
    c.list.ensures ∙ c.in_ok-rows.ensures ∙ ap (λ (ps : List ℕ). map (row_at c.args.orders.now) ps) c.deref-3.ensures.value in
    let some = some_candidate c.args.reference c.args.collars.now c.args.orders.now prices c.requires.order are in
    omega (arith, ap length rows, length-map prices (row_at c.args.orders.now), some)

pub returns : goal.returns
returns c =
    let prices = c.in_ok-prices.prices.items in
    let are : AreCandidates c.args.reference c.args.collars.now c.args.orders.now prices =
    stops_are_candidates c.args.reference c.args.collars.now c.args.orders.now c.deref.result.now prices
    (subst (IsPermutation (steps_of c.args.orders.now)) (sym c.deref.ensures.value) c.in_ok-steps.ensures.same)
    c.in_ok-prices.ensures.stops c.in_ok-prices.ensures.rising in
    is_cross c.args.reference c.args.collars.now c.args.orders.now prices c.in_ok-rows.rows c.first-first.result
    c.volume-volume.result c.imbalance.result c.left.result are
    (c.in_ok-rows.ensures ∙ ap (λ (ps : List ℕ). map (row_at c.args.orders.now) ps) c.deref-3.ensures.value)
    (subst (λ (rows : List Row). IsFirst c.args.reference rows rows c.first-first.result) c.list.ensures (record { among = c.first-first.ensures.among; first = c.first-first.ensures.first }))
    c.volume-volume.ensures c.imbalance.ensures c.left.ensures
