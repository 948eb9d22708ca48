use Rattle.std.proofs.Common.{◌≤◌, ap, length, arith}
use Rattle.yard_core.proofs.FirstState.{opens_with}
use Rattle.yard_core.proofs.yard.Yard.new.Goals as goal

pub new-requires-2 : goal.new-requires-2
new-requires-2 g c =
    let few : length c.args.jobs.items ≤ 64 = omega (arith, c.requires.jobs.1, c.args.jobs.ok.0) in
    opens_with g.J.Job.place_of g.J.Job.origin_of g.J.Job.has_result c.args.seats c.args.jobs.items c.of.result.value.items c.in_ok-slots.slots.items
    (ap (λ v. v.items) c.of.ensures) c.in_ok-slots.ensures c.requires.seats.0 c.requires.seats.1 few c.requires.places
