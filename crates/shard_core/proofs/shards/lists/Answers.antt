use Rattle.std.proofs.Common.{arith}
use Rattle.shard_core.proofs.shards.lists.Goals as goal

pub returns : goal.returns
returns c = omega (arith, c.loop-index.invariant.len, c.loop-index.lists.ok.0, c.loop-index-test.false, c.loop-index.auto._index-end)
