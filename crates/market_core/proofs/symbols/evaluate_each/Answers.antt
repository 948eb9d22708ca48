use Rattle.std.proofs.Common.{arith}
use Rattle.market_core.proofs.Appending.{one_more, later_more}
use Rattle.market_core.proofs.symbols.evaluate_each.Goals as goal

pub loop-i-preserved : goal.loop-i-preserved
loop-i-preserved c = record {
  appends = one_more c.evaluate.result c.unwrap.result c.loop-i.i c.args.market.now c.args.x.now c.args.symbols.now c.loop-i.symbols c.index-symbols-i.result c.evaluate.new.symbol _ c.loop-i.out.items _ (omega arith)
      c.loop-i.invariant.later c.loop-i.invariant.appends c.unwrap.ensures c.evaluate.ensures.ok;
  later = later_more c.loop-i.i c.args.symbols.now c.loop-i.symbols c.evaluate.new.symbol c.loop-i.invariant.later;
  room = omega arith;
  len = omega arith;
}
