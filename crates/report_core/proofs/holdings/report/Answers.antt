use Rattle.std.proofs.Common.{inl, inr, refl}
use Rattle.host_core.specs.declared.status.Status.TheVariants.{NoMemory}
use Rattle.host_core.proofs.Causes.{no_fault}
use Rattle.host_core.proofs.Chains.{reads_nothing}
use Rattle.recovery_core.proofs.Recovering.{only_read, only_sent, recovers_on}
use Rattle.report_core.proofs.Reporting.{ungathered_at_once, unread_reported, told_reported}
use Rattle.report_core.proofs.holdings.report.Goals as goal

-- there was no room
pub returns-in_default : goal.returns-in_default
returns-in_default g c =
    let now = g.H.Host.outside c.args.host.now in
    let reads = reads_nothing now (g.met.H.Host.sent_now c.args.host.now) in
    unread_reported _ NoMemory now now (g.met.H.Host.sent_now c.args.host.now) (g.met.H.Host.stops_now c.args.host.now) (only_read reads)
    (ungathered_at_once _ NoMemory reads (inl (inr (inr refl))) (no_fault now, inl refl))

-- it was read to its end
pub returns-in-Ok-gather : goal.returns-in-Ok-gather
returns-in-Ok-gather g c =
    told_reported _ _ _ _ (g.met.H.Host.sent_now c.tell.new.host) (g.met.H.Host.stops_now c.tell.new.host)
    (recovers_on c.in-Ok-gather.ensures.gathered.keeps (only_sent c.tell.ensures.keeps))
    c.in-Ok-gather.recovery c.in-Ok-gather.ensures.gathered c.tell.ensures.keeps c.tell.ensures.ends c.tell.ensures.tells

-- it was not
pub returns : goal.returns
returns g c =
    unread_reported _ _ _ _ (g.met.H.Host.sent_now c.gather.new.host) (g.met.H.Host.stops_now c.gather.new.host) c.in-Err.ensures.ungathered.keeps c.in-Err.ensures.ungathered
