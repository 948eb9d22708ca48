use Rattle.std.proofs.Common.{[], inl, sym, ◌∙◌, rules}
use Rattle.std.proofs.lemmas.Result.{IfOk-weaker}
use Rattle.host_core.proofs.Chains.{reads_on}
use Rattle.journal_core.specs.Scan.{HasRead}
use Rattle.journal_core.proofs.Walking.{whenever_known}
use Rattle.journal_core.proofs.scan.Scan.walked.Goals as goal

pub returns-in_err-walk-clause-no_journal : goal.returns-in_err-walk-clause-no_journal
returns-in_err-walk-clause-no_journal g c is disk known = c.in_err-walk.ensures.no_journal (search rules) disk known

pub returns-in_err-walk-clause-damaged : goal.returns-in_err-walk-clause-damaged
returns-in_err-walk-clause-damaged g c at is disk known =
    let broken = c.in_err-walk.ensures.damaged at (search rules) disk known in
    (broken.0, inl broken.1)

pub returns-clause-header : goal.returns-clause-header
returns-clause-header g c =
    IfOk-weaker c.scan.result _ _ (λ scan same disk known. rw same (c.in_ok-walk.ensures.walked disk (sym c.scan.ensures.keeps.disk ∙ known)).walked.header) c.scan.ensures.capacity

pub returns-clause-read : goal.returns-clause-read
returns-clause-read g c =
    whenever_known c.scan.result (g.H.Host.outside c.scan.new.host).disk (λ scan disk. HasRead scan [] disk) (λ disk known.
    let before = sym c.scan.ensures.keeps.disk ∙ known in
    c.scan.ensures.read disk before (c.in_ok-walk.ensures.walked disk before) (c.in_ok-walk.ensures.closed disk before))

pub returns-clause-damaged : goal.returns-clause-damaged
returns-clause-damaged g c at is disk known =
    let before = sym c.scan.ensures.keeps.disk ∙ known in
    (_, c.scan.ensures.damaged at is disk before (c.in_ok-walk.ensures.walked disk before) (c.in_ok-walk.ensures.closed disk before))

pub returns-clause-keeps : goal.returns-clause-keeps
returns-clause-keeps g c = reads_on c.over.ensures.keeps c.scan.ensures.keeps
