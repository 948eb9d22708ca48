use Rattle.recovery_core.proofs.Recovering.{answered_on}
use Rattle.live_core.proofs.Restoring.{unbegun, unread, restored}
use Rattle.live_core.proofs.start.restore.Goals as goal

pub returns-in_err-recovery-clause-unread : goal.returns-in_err-recovery-clause-unread
returns-in_err-recovery-clause-unread g c =
    answered_on _ c.from_residual.result c.from_residual.ensures.1
    (unbegun _ c.args.workers c.args.from _ c.begin.ensures.keeps c.in_err-recovery.ensures.kind c.in_err-recovery.ensures.hindered)

pub returns-in_err-recover-clause-unread : goal.returns-in_err-recover-clause-unread
returns-in_err-recover-clause-unread g c =
    answered_on _ c.from_residual-in_err-recover.result c.from_residual-in_err-recover.ensures.1
    (unread c.args.from c.begin.ensures.keeps c.in_ok-recovery.ensures.none c.in_ok-recovery.ensures.recovers c.recover.ensures.keeps c.recover.ensures.moments
    _ _ c.in_ok-recovery.ensures.workers c.in_ok-recovery.ensures.header c.in_err-recover.ensures.hindered)

pub returns-clause-restored : goal.returns-clause-restored
returns-clause-restored g c =
    restored c.args.from c.begin.ensures.keeps c.in_ok-recovery.ensures.none c.in_ok-recovery.ensures.recovers c.recover.ensures.keeps c.recover.ensures.moments
    c.in_ok-recover.ensures.recovers c.in_ok-recover.ensures.alone c.in_ok-recover.ensures.closed c.finish.result c.requires.room.round c.finish.ensures c.in_ok-recover.ensures.reading c.in_ok-recover.ensures.none
