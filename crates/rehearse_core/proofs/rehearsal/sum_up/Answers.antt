use Rattle.std.proofs.Common.{◌+◌, arith}
use Rattle.gen_core.proofs.Sending.{nothing_sent}
use Rattle.rehearse_core.specs.Rehearsed.{summary_of}
use Rattle.rehearse_core.proofs.Rehearsing.{lines_of_all, at_most_all}
use Rattle.rehearse_core.proofs.rehearsal.sum_up.Goals as goal

pub returns-in_err-rehearsal-clause-moments : goal.returns-in_err-rehearsal-clause-moments
returns-in_err-rehearsal-clause-moments g c =
    nothing_sent (g.H.Host.outside c.args.host.now) (g.met.H.Host.sent_now c.args.host.now) (summary_of c.args.plan.now)

pub overflow_sub-refused : goal.overflow_sub-refused
overflow_sub-refused g c = omega (arith, at_most_all c.args.plan.now c.in_ok-rehearsal.ensures, c.from.ensures, c.from-2.ensures)

pub returns-clause-sent : goal.returns-clause-sent
returns-clause-sent g c =
    rw (lines_of_all c.args.plan.now c.in_ok-rehearsal.ensures (1 + c.from.result + c.from-2.result) (omega (arith, c.from.ensures, c.from-2.ensures))) at c.send_summary.ensures.sent

pub returns-clause-moments : goal.returns-clause-moments
returns-clause-moments g c =
    rw (lines_of_all c.args.plan.now c.in_ok-rehearsal.ensures (1 + c.from.result + c.from-2.result) (omega (arith, c.from.ensures, c.from-2.ensures))) at c.send_summary.ensures.moments
