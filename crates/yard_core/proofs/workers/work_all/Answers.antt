use Rattle.std.proofs.Common.{map, subst}
use Rattle.yard_core.specs.YardState.{HasPlace}
use Rattle.yard_core.proofs.workers.work_all.Goals as goal

pub returns-clause-jobs : goal.returns-clause-jobs
returns-clause-jobs g c k job at =
    let its = c.close.ensures.jobs k job at in
    (subst (λ js. HasPlace g.J.Job.place_of g.J.Job.origin_of (map g.J.Job.origin_of js) k job) c.in_ok-yard.ensures.jobs its.0, its.1)
