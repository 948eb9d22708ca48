use Rattle.gen_core.specs.Generated.{generated}
use Rattle.rehearse_core.proofs.rehearsal.rehearsed.Goals as goal

pub returns : goal.returns
returns g c =
    let all = generated c.args.plan.now in
    c.in_ok-judge_all.ensures.rehearses all (rw (c.in_ok-rehearsal.ensures.empty, c.in_ok-generator.ensures.day) (c.in_ok-rehearsal.ensures.rehearses all))
