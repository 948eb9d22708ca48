use Rattle.std.proofs.Common.{arith}
use Rattle.journal_core.proofs.batch.places.Goals as goal

pub returns : goal.returns
returns c = omega (arith, c.loop-place.invariant.len, c.loop-place.places.ok.0, c.loop-place-test.false, c.loop-place.auto._place-end)
