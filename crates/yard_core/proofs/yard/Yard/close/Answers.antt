use Rattle.std.proofs.Common.{◌≡◌, ℕ, List, map, length, Some, sym, ap, ◌∙◌, arith}
use Rattle.std.proofs.lemmas.List.{length-map}
use Rattle.std.specs.Slots.{slots_items, slots_counts}
use Rattle.yard_core.specs.Seats.{jobs_of}
use Rattle.yard_core.specs.YardState.{HasPlace}
use Rattle.yard_core.proofs.LastSeat.{closes}
use Rattle.yard_core.proofs.SlotJobs.{returned}
use Rattle.yard_core.proofs.yard.Yard.close.Goals as goal

pub take_all-requires-clause-jobs : goal.take_all-requires-clause-jobs
take_all-requires-clause-jobs g c k near =
    let closed = c.close_with-closed in
    let each = closes g.J.Job.place_of g.J.Job.origin_of g.J.Job.has_result _ _ _ _ _ _ c.join_seats-last.ensures.last closed.ensures.values.2 in
    let its = each.1 k (omega (arith, each.0, (slots_counts closed.result.slots).0)) in
    (its.0, its.1)

pub returns-clause-jobs : goal.returns-clause-jobs
returns-clause-jobs g c =
    let place = g.J.Job.place_of in
    let origin = g.J.Job.origin_of in
    let result = g.J.Job.has_result in
    let origins : List g.row.J-Origin.Denot = map origin (jobs_of c.args.self) in
    let closed = c.close_with-closed in
    let each = closes place origin result _ _ _ _ _ _ c.join_seats-last.ensures.last closed.ensures.values.2 in
    let P : ℕ → g.row.J.Denot → Type 0 = λ k job. HasPlace place origin origins k job × result job in
    let count : length c.take_all.result.items ≡ length origins = sym (length-map c.take_all.result.items Some) ∙ (ap length c.take_all.ensures ∙ each.0) in
    returned P c.take_all.result.items (slots_items closed.result.slots) (length origins) c.take_all.ensures count (λ k near. let its = each.1 k near in (its.0, its.1, (its.2, its.3)))
