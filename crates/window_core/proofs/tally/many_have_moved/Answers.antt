use Rattle.std.proofs.Common.{◌+◌, ◌*◌, ◌∙◌, arith}
use Rattle.std.specs.Prelude.{◌-◌, ◌/◌, ◌||◌, nat_le, nat_lt}
use Rattle.window_core.proofs.Moves.{has_moved-gives, or_first, or_second}
use Rattle.window_core.proofs.tally.many_have_moved.Goals as goal

pub returns-then-doubled-sum : goal.returns-then-doubled-sum
returns-then-doubled-sum c =
    let sum = c.args.sum in
    let n = c.args.count in
    let price = c.units-price.result in
    has_moved-gives sum n price c.args.reference _ c.units-price.ensures.value c.units-price.ensures.range (omega arith)
    (or_first c.doubled.result (2 * sum + c.from.result) (nat_lt (2 * sum + n) ((price - (price + 99) / 100 + 1) * (2 * n))) (omega arith)
    ∙ (λ i. nat_le (c.doubled.ensures i) (2 * sum + c.from.ensures i) || nat_lt (2 * sum + n) ((price - (price + 99) / 100 + 1) * (2 * n))))

pub returns-else-doubled-sum : goal.returns-else-doubled-sum
returns-else-doubled-sum c =
    let sum = c.args.sum in
    let n = c.args.count in
    has_moved-gives sum n c.units-price.result c.args.reference _ c.units-price.ensures.value c.units-price.ensures.range (omega arith)
    (or_second c.doubled.result (2 * sum + c.from.result) _ (omega arith)
    ∙ (λ i. nat_le (c.doubled.ensures i) (2 * sum + c.from.ensures i) || nat_lt (2 * sum + c.from.ensures i) (c.doubled-else-doubled-sum.ensures i)))
