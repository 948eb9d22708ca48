use Rattle.std.proofs.Common.{arith}
use Rattle.std.proofs.lemmas.List.{take_rest}
use Rattle.host_core.proofs.Pieces.{read_more}
use Rattle.host_core.proofs.whole.read_whole.Goals as goal

pub loop-done-preserved : goal.loop-done-preserved
loop-done-preserved g c =
    read_more c.loop-done.invariant c.in_ok-count.count c.read_at.new.into (g.T.RawFile.state c.read_at.new.self)
    (omega (arith, c.loop-done.auto.into)) (omega (arith, c.read_at.auto.into)) c.in_ok-count.ensures.bound c.in_ok-count.ensures.given c.in_ok-count.ensures.same
