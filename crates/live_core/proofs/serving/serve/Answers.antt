use Rattle.std.proofs.Common.{inl, inr, refl}
use Rattle.host_core.proofs.Causes.{no_fault}
use Rattle.host_core.proofs.Chains.{reads_nothing}
use Rattle.live_core.proofs.Restoring.{unbegun}
use Rattle.live_core.proofs.Served.{unread_served}
use Rattle.live_core.proofs.serving.serve.Goals as goal

-- there was no room, and memory ran out before anything happened
pub returns-in-Err : goal.returns-in-Err
returns-in-Err g c = record {
  served =
      unread_served _ _ _ _ _ _ _ _ (g.met.H.Host.sent_now c.args.host.now) (g.met.H.Host.read_passes c.args.host.now) (g.met.H.Host.stops_now c.args.host.now)
      (unbegun _ c.args.options.now.workers c.args.options.now.from _ (reads_nothing (g.H.Host.outside c.args.host.now) (g.met.H.Host.sent_now c.args.host.now))
      (inl (inr (inr refl))) (no_fault (g.H.Host.outside c.args.host.now), inl refl));
}
