use Rattle.std.proofs.Common.{ℕ, ◌+◌, subst, sym}
use Rattle.alarms.specs.Bounds.{IsLeast}
use Rattle.alarms.proofs.Bounded.{least-more}
use Rattle.alarms.proofs.alarms.least.Goals as goal

pub loop-number-preserved : goal.loop-number-preserved
loop-number-preserved c =
    subst (λ (least : ℕ). IsLeast least 0 (c.loop-number.number-index + 1) c.args.numbers.now) (sym c.min-least.ensures)
    (least-more c.loop-number.least c.loop-number.number-index c.args.numbers.now c.loop-number.invariant c.loop-number-test.true)
