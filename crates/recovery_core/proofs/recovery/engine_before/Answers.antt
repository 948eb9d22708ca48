use Rattle.std.proofs.Common.{◌≡◌, sym, ap, subst, ◌∙◌}
use Rattle.std.specs.Prelude.{◌≤◌, Option, Some, IfSome}
use Rattle.std.specs.Option.{option_copied}
use Rattle.wire_in.specs.Bases.{IsInRange}
use Rattle.wire_in.specs.declared.base.Base.{Base}
use Rattle.recovery_core.proofs.Recovering.{based_before, fresh_before}
use Rattle.recovery_core.proofs.recovery.engine_before.Goals as goal

pub restore-requires-clause-fresh : goal.restore-requires-clause-fresh
restore-requires-clause-fresh c = (0, c.requires.fresh)

pub restore-requires-clause-range : goal.restore-requires-clause-range
restore-requires-clause-range c =
    let some : c.args.scan.now.base ≡ Some c.in-Some.base.now = sym c.base.ensures.base ∙ ap option_copied c.in-Some.is in
    subst (λ (o : Option Base). IfSome o IsInRange) some c.base.ensures.range

pub returns-in-Some-clause-before : goal.returns-in-Some-clause-before
returns-in-Some-clause-before c =
    let b = c.in-Some.base.now in
    let some : c.args.scan.now.base ≡ Some b = sym c.base.ensures.base ∙ ap option_copied c.in-Some.is in
    let few = subst (λ (o : Option Base). IfSome o (λ b. b.records ≤ c.args.scan.now.capacity)) some c.base.ensures.few in
    based_before c.limit-capacity.result b c.restore.result c.limit-capacity.ensures.capacity c.limit-capacity.ensures.range.most some (subst (λ (o : Option Base). IfSome o IsInRange) some c.base.ensures.range)
    (subst (λ n. b.records ≤ n) (sym c.limit-capacity.ensures.capacity) few)
    c.restore.ensures.stand_in c.restore.ensures.represents c.restore.ensures.count c.restore.ensures.evaluated c.restore.ensures.published

pub returns-clause-before : goal.returns-clause-before
returns-clause-before c =
    fresh_before c.limit-capacity.result c.args.fresh _ c.limit-capacity.ensures.capacity c.limit-capacity.ensures.range.most (sym c.base.ensures.base ∙ ap option_copied c.in_default.is) c.limit.ensures c.requires.fresh
