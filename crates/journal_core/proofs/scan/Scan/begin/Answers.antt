use Rattle.std.proofs.Common.{[]}
use Rattle.std.proofs.lemmas.Result.{IfOk-weaker}
use Rattle.host_core.proofs.Chains.{reads_nothing, reads_on, still_settled}
use Rattle.journal_core.specs.Scan.{IsBegun}
use Rattle.journal_core.proofs.scan.Scan.begin.Goals as goal

pub returns-in_err-ahead-clause-keeps : goal.returns-in_err-ahead-clause-keeps
returns-in_err-ahead-clause-keeps g c = reads_nothing (g.H.Host.outside c.args.host.now) (g.met.H.Host.sent_now c.args.host.now)

pub returns-clause-of_disk : goal.returns-clause-of_disk
returns-clause-of_disk g c = IfOk-weaker c.walked.result _ _ (λ scan read disk known. ([], read disk known)) c.walked.ensures.read

pub returns-clause-settled : goal.returns-clause-settled
returns-clause-settled g c =
    let settled = still_settled c.walked.ensures.keeps.moments c.walked.ensures.keeps.disk c.in_ok-settle.ensures.syncs.settled in
    IfOk-weaker c.walked.result IsBegun _ (λ scan begun. settled) c.walked.ensures.begun

pub returns-clause-keeps : goal.returns-clause-keeps
returns-clause-keeps g c = reads_on c.settle.ensures.syncs.keeps c.walked.ensures.keeps
