use Rattle.recovery_core.proofs.Recovering.{answered_on, fault_hinders, only_sent, recovers_on}
use Rattle.host_core.proofs.Causes.{faultless}
use Rattle.standby_core.proofs.SentBatches.{flushed_moments, shipped_all, unread, unshipped, unshipped_at_once, unstarved}
use Rattle.standby_core.proofs.shipping.ship_journal.Goals as goal

pub returns-in_err-reading-clause-unshipped : goal.returns-in_err-reading-clause-unshipped
returns-in_err-reading-clause-unshipped g c =
    answered_on _ c.from_residual.result c.from_residual.ensures.1
    (unshipped_at_once _ c.args.from _ c.begin.ensures.keeps c.in_err-reading.ensures.kind c.in_err-reading.ensures.hindered)

pub returns-in_err-ship_batches-clause-unshipped : goal.returns-in_err-ship_batches-clause-unshipped
returns-in_err-ship_batches-clause-unshipped g c =
    answered_on _ c.from_residual-in_err-ship_batches.result c.from_residual-in_err-ship_batches.ensures.1
    (unshipped c.begin.ensures.keeps c.in_ok-reading.ensures.none c.in_ok-reading.ensures.reads _ c.requires c.ship_batches.ensures.keeps c.ship_batches.ensures.moments
    _ _ c.in_ok-reading.ensures.header c.in_err-ship_batches.ensures.hindered)

pub returns-in_err-flush-clause-unshipped : goal.returns-in_err-flush-clause-unshipped
returns-in_err-flush-clause-unshipped g c =
    answered_on _ c.from_residual-in_err-flush.result c.from_residual-in_err-flush.ensures.1
    (unshipped c.begin.ensures.keeps c.in_ok-reading.ensures.none c.in_ok-reading.ensures.reads _ c.requires (recovers_on c.ship_batches.ensures.keeps (only_sent c.flush.ensures.outside.keeps))
    (flushed_moments c.ship_batches.ensures.base c.ship_batches.ensures.moments c.in_ok-ship_batches.ensures.ships c.flush.ensures.moments)
    _ _ c.in_ok-reading.ensures.header
    (fault_hinders _ _ _ _ c.in_err-flush.was (unread c.flush.result c.flush.ensures.outside.fault) (λ short. absurd (unstarved c.flush.result c.flush.ensures.outside.fault short)) c.in_ok-ship_batches.ensures.none c.in_err-flush.ensures.outside.causes))

pub returns-clause-shipped : goal.returns-clause-shipped
returns-clause-shipped g c =
    shipped_all c.begin.ensures.keeps c.in_ok-reading.ensures.none c.in_ok-reading.ensures.reads _ c.requires (recovers_on c.ship_batches.ensures.keeps (only_sent c.flush.ensures.outside.keeps))
    (flushed_moments c.ship_batches.ensures.base c.ship_batches.ensures.moments c.in_ok-ship_batches.ensures.ships c.flush.ensures.moments)
    c.ship_batches.new.reading c.ship_batches.new.outbox c.in_ok-ship_batches.ensures.ships c.in_ok-ship_batches.ensures.closed c.in_ok-flush.ensures.sent (faultless c.in_ok-ship_batches.ensures.none c.in_ok-flush.ensures.outside.causes)
