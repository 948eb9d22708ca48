use Rattle.std.proofs.Common.{inl, inr, refl}
use Rattle.host_core.specs.declared.status.Status.TheVariants.{NoMemory}
use Rattle.host_core.proofs.Causes.{no_fault}
use Rattle.host_core.proofs.Chains.{reads_nothing}
use Rattle.roll_core.proofs.Adding.{gathered_rolled, ungathered_at_once, unread_rolled}
use Rattle.roll_core.proofs.rolling.roll.Goals as goal

-- there was no room
pub returns-in_default : goal.returns-in_default
returns-in_default g c =
    let now = g.H.Host.outside c.args.host.now in
    unread_rolled _ NoMemory now now (ungathered_at_once _ NoMemory (reads_nothing now (g.met.H.Host.sent_now c.args.host.now)) (inl (inr (inr refl))) (no_fault now, inl refl))

-- it was read to its end
pub returns-in-Ok-gather : goal.returns-in-Ok-gather
returns-in-Ok-gather g c = gathered_rolled _ _ _ _ (g.met.H.Host.read_passes c.finish.new.host) c.in-Ok-gather.recovery c.in-Ok-gather.ensures.gathered c.finish.ensures

-- it was not
pub returns : goal.returns
returns g c = unread_rolled _ _ _ _ c.in-Err.ensures.ungathered
