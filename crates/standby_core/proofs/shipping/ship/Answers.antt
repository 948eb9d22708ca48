use Rattle.std.proofs.Common.{inl, inr, refl}
use Rattle.host_core.specs.declared.status.Status.TheVariants.{NoMemory}
use Rattle.host_core.proofs.Causes.{no_fault}
use Rattle.host_core.proofs.Chains.{reads_nothing}
use Rattle.recovery_core.proofs.Recovering.{only_read}
use Rattle.standby_core.proofs.SentBatches.{unshipped_at_once}
use Rattle.standby_core.proofs.Shipments.{all_shipped, part_shipped}
use Rattle.standby_core.proofs.shipping.ship.Goals as goal

-- there was no room
pub returns-in_default : goal.returns-in_default
returns-in_default g c =
    let now = g.H.Host.outside c.args.host.now in
    let reads = reads_nothing now (g.met.H.Host.sent_now c.args.host.now) in
    part_shipped _ c.args.from NoMemory now now (g.met.H.Host.sent_now c.args.host.now) (g.met.H.Host.stops_now c.args.host.now) (only_read reads)
    (unshipped_at_once _ c.args.from NoMemory reads (inl (inr (inr refl))) (no_fault now, inl refl))

-- all was sent
pub returns-in-Ok-ship_journal : goal.returns-in-Ok-ship_journal
returns-in-Ok-ship_journal g c =
    let i = c.in-Ok-ship_journal.ensures.shipped in
    all_shipped _ c.args.from _ _ _ (g.met.H.Host.sent_now c.ship_journal.new.host) (g.met.H.Host.stops_now c.ship_journal.new.host) i.keeps refl i

-- it was not
pub returns : goal.returns
returns g c =
    let u = c.in-Err.ensures.unshipped in
    part_shipped _ c.args.from _ _ _ (g.met.H.Host.sent_now c.ship_journal.new.host) (g.met.H.Host.stops_now c.ship_journal.new.host) u.keeps u
