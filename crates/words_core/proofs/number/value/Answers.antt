use Rattle.std.proofs.Common.{ℕ, ap, ◌+◌, ◌∙◌}
use Rattle.std.specs.Prelude.{min}
use Rattle.words_core.proofs.Numbers.{value_next, saturates}
use Rattle.words_core.proofs.number.value.Goals as goal

pub loop-digit-preserved : goal.loop-digit-preserved
loop-digit-preserved c =
    saturates 340282366920938463463374607431768211455 _ _ _ c.loop-digit.value c.saturating_mul.result _ c.loop-digit.invariant c.saturating_mul.ensures
    (c.saturating_add-value.ensures ∙ ap (λ (d : ℕ). min (c.saturating_mul.result + d) 340282366920938463463374607431768211455) (c.from.ensures ∙ c.saturating_sub.ensures))
    (value_next c.args.word.now c.loop-digit.digit-index c.loop-digit-test.true)
