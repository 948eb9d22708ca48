use denote.Exit.{no}
use denote.Param.Send.{arg_send, param_send}
use Rattle.std.proofs.Common.{◌≡◌, length, arith}
use Rattle.shard_core.specs.contracts.job.PartJob.{the_row}
use Rattle.shard_core.proofs.Sent.{borrowed, job_send}
use Rattle.shard_core.proofs.WorkedJobs.{all_tell}
use Rattle.shard_core.proofs.jobs.work_beside.Lts as lts
use Rattle.shard_core.proofs.jobs.work_beside.Goals as goal

pub work_all-requires-send-J : goal.work_all-requires-send-J
work_all-requires-send-J g c κs within = param_send 0 (lts.arg-3-0 g.row.Rt g.row.G g.Rt.laws g.G.laws g.Rt.Threads-dict g.G.Gate-dict κs) (arg_send _ no (the_row (borrowed κs.1.1.0)) (job_send (borrowed κs.1.1.0)))

pub returns-clause-tells : goal.returns-clause-tells
returns-clause-tells g c =
    let jobs = c.in_ok-jobs.jobs in
    let done = c.in_ok-done.done in
    let as_many : length done.items ≡ length jobs.items = omega (arith, (c.in_ok-done.ensures).count, jobs.ok.0, done.ok.0) in
    all_tell c.take_back.result c.args.parts.now c.take_back.new.parts c.take_back.new.told c.args.xs.now c.args.turns.now jobs.items done.items
    (c.in_ok-jobs.ensures).count as_many (c.in_ok-jobs.ensures).jobs (c.in_ok-done.ensures).jobs c.take_back.ensures.back
