use Rattle.std.proofs.Common.{◌+◌, ◌*◌, ◌≡◌, ◌∙◌, ℕ, arith}
use Rattle.std.specs.Prelude.{◌-◌, ◌/◌, ◌||◌, nat_le, nat_lt}
use Rattle.window_core.proofs.Moves.{has_moved-gives, with_width}
use Rattle.window_core.proofs.tally.few_have_moved.Goals as goal

pub returns : goal.returns
returns c = λ some.
    let sum = c.args.sum in
    let n = c.args.count in
    let price = c.units-price.result in
    let hundredth = (price + 99) / 100 in
    let width : c.doubled_few-low.result + c.doubled_few-width.result ≡ (price + hundredth) * (2 * n) =
    (λ i. c.doubled_few-low.ensures i + c.doubled_few-width.ensures i) ∙ with_width price hundredth (2 * n) (omega (arith, c.units-price.ensures.range.least)) (omega (arith, c.units-price.ensures.range.least)) in
    has_moved-gives sum n price c.args.reference _ c.units-price.ensures.value c.units-price.ensures.range some
    (c.is_outside.ensures ∙ (λ i. nat_le (width i) (2 * sum + n) || nat_lt (2 * sum + n) (c.doubled_few-low.ensures i)))
