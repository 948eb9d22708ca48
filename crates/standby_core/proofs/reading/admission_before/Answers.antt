use Rattle.std.proofs.Common.{◌≡◌, sym, ap, subst, ◌∙◌}
use Rattle.std.specs.Prelude.{Option, Some, IfSome}
use Rattle.std.specs.Option.{option_copied}
use Rattle.wire_in.specs.Bases.{IsInRange}
use Rattle.wire_in.specs.declared.base.Base.{Base}
use Rattle.standby_core.proofs.Admitting.{based_admits, fresh_admits}
use Rattle.standby_core.proofs.reading.admission_before.Goals as goal

pub restore-requires : goal.restore-requires
restore-requires c =
    let some : c.args.scan.now.base ≡ Some c.in-Some.base.now = sym c.base.ensures.base ∙ ap option_copied c.in-Some.is in
    record { none = c.requires.fresh; range = subst (λ (o : Option Base). IfSome o IsInRange) some c.base.ensures.range }

pub returns-in-Some-clause-before : goal.returns-in-Some-clause-before
returns-in-Some-clause-before c =
    let b = c.in-Some.base.now in
    let some : c.args.scan.now.base ≡ Some b = sym c.base.ensures.base ∙ ap option_copied c.in-Some.is in
    based_admits c.limit-capacity.result b c.restore.result c.limit-capacity.ensures.capacity some c.restore.ensures.capacity c.restore.ensures.count c.restore.ensures.stand_in

pub returns-clause-before : goal.returns-clause-before
returns-clause-before c = fresh_admits c.limit-capacity.result c.args.fresh _ c.limit-capacity.ensures.capacity (sym c.base.ensures.base ∙ ap option_copied c.in_default.is) c.limit.ensures c.requires.fresh
