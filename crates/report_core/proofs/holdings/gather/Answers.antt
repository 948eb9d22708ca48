use Rattle.recovery_core.proofs.Recovering.{answered_on}
use Rattle.report_core.proofs.Reporting.{ungathered_at_once, ungathered, gathered}
use Rattle.report_core.proofs.holdings.gather.Goals as goal

pub returns-in_err-recovery-clause-ungathered : goal.returns-in_err-recovery-clause-ungathered
returns-in_err-recovery-clause-ungathered g c =
    answered_on _ c.from_residual.result c.from_residual.ensures.1
    (ungathered_at_once _ _ c.begin.ensures.keeps c.in_err-recovery.ensures.kind c.in_err-recovery.ensures.hindered)

pub returns-in_err-read-clause-ungathered : goal.returns-in_err-read-clause-ungathered
returns-in_err-read-clause-ungathered g c =
    answered_on _ c.from_residual-in_err-read.result c.from_residual-in_err-read.ensures.1
    (ungathered c.begin.ensures.keeps c.in_ok-recovery.ensures.none c.in_ok-recovery.ensures.recovers c.read.ensures.keeps c.read.ensures.moments
    _ _ c.in_ok-recovery.ensures.workers c.in_ok-recovery.ensures.header c.in_err-read.ensures.hindered)

pub returns-clause-gathered : goal.returns-clause-gathered
returns-clause-gathered g c =
    gathered c.begin.ensures.keeps c.in_ok-recovery.ensures.none c.in_ok-recovery.ensures.recovers c.read.ensures.keeps c.read.ensures.moments
    _ c.in_ok-read.ensures.recovers c.in_ok-read.ensures.closed c.in_ok-read.ensures.none
