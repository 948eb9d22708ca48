use Rattle.std.proofs.Common.{Err, refl, ap, ◌∙◌}
use Rattle.host_core.proofs.Causes.{faultless}
use Rattle.host_core.proofs.Chains.{reads_on}
use Rattle.recovery_core.proofs.Recovering.{answered_on}
use Rattle.roll_core.proofs.Adding.{begun_at, ungathered, ungathered_at_once}
use Rattle.roll_core.proofs.rolling.gather.Goals as goal

pub returns-in_err-recovery-clause-ungathered : goal.returns-in_err-recovery-clause-ungathered
returns-in_err-recovery-clause-ungathered g c =
    answered_on _ c.from_residual.result c.from_residual.ensures.1
    (ungathered_at_once _ _ c.begin.ensures.keeps c.in_err-recovery.ensures.kind c.in_err-recovery.ensures.hindered)

pub returns-in_err-read-clause-ungathered : goal.returns-in_err-read-clause-ungathered
returns-in_err-read-clause-ungathered g c =
    let quiet = c.read.ensures.unasked refl c.in_ok-recovery.ensures.outbox in
    answered_on _ c.from_residual-in_err-read.result c.from_residual-in_err-read.ensures.1
    (ungathered c.begin.ensures.keeps c.in_ok-recovery.ensures.none c.in_ok-recovery.ensures.recovers quiet.1 _ _ (λ is. quiet.0 (c.in_err-read.was ∙ ap Err is))
    c.in_ok-recovery.ensures.workers c.in_ok-recovery.ensures.header c.in_err-read.ensures.hindered)

pub returns-clause-gathered : goal.returns-clause-gathered
returns-clause-gathered g c =
    let quiet = c.read.ensures.unasked refl c.in_ok-recovery.ensures.outbox in
    record {
      closed = c.in_ok-read.ensures.closed;
      reading = c.in_ok-read.ensures.reading;
      alone = c.read.ensures.workers ∙ c.in_ok-recovery.ensures.workers;
      recovers = λ disk known. c.in_ok-read.ensures.recovers _ disk (begun_at c.begin.ensures.keeps c.in_ok-recovery.ensures.none c.in_ok-recovery.ensures.recovers quiet.1 disk known);
      reads = reads_on c.begin.ensures.keeps quiet.1;
      none = faultless c.in_ok-recovery.ensures.none c.in_ok-read.ensures.none;
    }
