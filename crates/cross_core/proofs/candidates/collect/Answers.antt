use Rattle.std.proofs.Common.{arith, false, refl, ◌∙◌}
use Rattle.cross_core.proofs.Collected.{collected_step, next_is_there}
use Rattle.cross_core.proofs.candidates.collect.Goals as goal

pub loop-step-preserved : goal.loop-step-preserved
loop-step-preserved c = record {
  room = omega (arith, c.add_next.ensures.len, c.loop-step.invariant.room);
  capacity = c.add_next.ensures.capacity ∙ c.loop-step.invariant.capacity;
  candidates = λ p.
      collected_step c.args.reference p c.args.collars.now c.args.steps.now c.loop-step.step-index _ (record { from = 0; buy = false; size = 0 }) _ _ c.loop-step-test.true refl (c.loop-step.invariant.candidates p)
      (c.add_next.ensures.items p);
  last = λ p. next_is_there _ _ _ _ (c.add_next.ensures.items p);
}
