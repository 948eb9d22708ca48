use Rattle.std.proofs.Common.{[]}
use Rattle.rehearse_core.proofs.rehearsal.Rehearsal.judge_all.Goals as goal

pub returns : goal.returns
returns g c = record { rehearses = λ all first. c.settle.ensures.rehearses all [] (rw c.in_default.ensures.first.0 at (c.loop-x.invariant.rehearses all first)) }
