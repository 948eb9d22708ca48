use Rattle.std.proofs.Common.{arith}
use Rattle.engine_core.proofs.Answering.{drop_one}
use Rattle.rehearse_core.proofs.rehearsal.evaluate_each.Goals as goal

pub loop-x-preserved : goal.loop-x-preserved
loop-x-preserved c =
    let front = drop_one c.args.block.now c.loop-x.x-index c.x-item.result c.loop-x-test.true c.x-item.is in
    record {
      sound = c.in_ok-evaluate.ensures.sound;
      more = omega (arith, c.loop-x.invariant.more, c.in_ok-evaluate.ensures.more);
      rehearses = λ all left was. c.in_ok-evaluate.ensures.rehearses all left _ (rw front at (c.loop-x.invariant.rehearses all left was));
    }
