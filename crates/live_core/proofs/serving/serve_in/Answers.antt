use Rattle.std.proofs.Common.{◌∙◌}
use Rattle.live_core.proofs.Served.{unread_served, answered_served}
use Rattle.live_core.proofs.serving.serve_in.Goals as goal

-- the input was answered
pub returns-in-Ok : goal.returns-in-Ok
returns-in-Ok g c = record {
  served =
      answered_served _ _ _ _ _ _ _ _ (g.met.H.Host.sent_now c.answer.new.host) (g.met.H.Host.read_passes c.answer.new.host) (g.met.H.Host.stops_now c.answer.new.host)
      c.in-Ok.serving c.answer.new.serving.keeper.journal c.in-Ok.ensures.restored (c.in-Ok.ensures.frames ∙ c.requires.frames) c.answer.ensures;
}

-- no session began
pub returns-in-Err : goal.returns-in-Err
returns-in-Err g c = record {
  served =
      unread_served _ _ _ _ _ _ _ _ (g.met.H.Host.sent_now c.restore.new.host) (g.met.H.Host.read_passes c.restore.new.host) (g.met.H.Host.stops_now c.restore.new.host) c.in-Err.ensures.unread;
}
