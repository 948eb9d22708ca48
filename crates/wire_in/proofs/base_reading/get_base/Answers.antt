use Rattle.std.proofs.Common.{◌∙◌, sym, true≢false}
use Rattle.wire_in.proofs.BaseForms.{is_spelled, none_spelled}
use Rattle.wire_in.proofs.base_reading.get_base.Goals as goal

pub returns-then-branch-clause-only : goal.returns-then-branch-clause-only
returns-then-branch-clause-only c = λ b s. is_spelled c.args.body.now c.in_ok-b.b b (c.in_ok-b.ensures).found s

pub returns-else-branch-clause-bad : goal.returns-else-branch-clause-bad
returns-else-branch-clause-bad c = λ _.
    none_spelled c.args.body.now c.in_ok-b.b (c.in_ok-b.ensures).found (λ ranges. true≢false (sym ((c.in_ok-is_in_range.ensures).1 ranges) ∙ c.if-branch.false))
