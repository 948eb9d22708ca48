use Rattle.std.proofs.Common.{ap, arith}
use Rattle.gen_core.specs.declared.tally.Tally.{Tally}
use Rattle.gen_core.proofs.Counting.{counts_more, counts_all, counts_none, sum_more, all_more}
use Rattle.gen_core.proofs.tally.Tally.count.Goals as goal

pub loop-stamped-init : goal.loop-stamped-init
loop-stamped-init c = record {
  counts = λ before is. counts_none _ before c.args.messages.now is;
  sum = c.requires.sum;
  all = omega arith;
}

pub loop-stamped-preserved : goal.loop-stamped-preserved
loop-stamped-preserved c =
    let was = c.loop-stamped.invariant in
    record {
      counts = λ before is. counts_more c.loop-stamped.self c.count_one.new.self before c.args.messages.now c.loop-stamped.stamped-index c.stamped-item.result c.loop-stamped-test.true c.stamped-item.is (was.counts before is) c.count_one.ensures;
      sum = rw (c.count_one.ensures) (sum_more c.loop-stamped.self c.stamped-item.result.message was.sum);
      all = omega (arith, ap (λ (t : Tally). t.messages) c.count_one.ensures, all_more c.loop-stamped.self c.stamped-item.result.message, was.all);
    }

pub returns-clause-counts : goal.returns-clause-counts
returns-clause-counts c = λ before is.
    counts_all c.loop-stamped.self before c.args.messages.now c.loop-stamped.stamped-index (omega (arith, c.loop-stamped-test.false, c.loop-stamped.auto.stamped-index-end)) (c.loop-stamped.invariant.counts before is)
