use Rattle.std.proofs.Common.{ℕ, subst}
use Rattle.std.specs.Prelude.{Option, IfSome}
use Rattle.symbol_core.specs.Idle.{Waits}
use Rattle.symbol_core.proofs.symbol.due_after.Goals as goal

pub returns-in-Some : goal.returns-in-Some
returns-in-Some c =
    let step = c.args.step.now in
    c.due_within.ensures (c.requires.quiet c.if-is_quiet.true)
    (subst (λ (o : Option ℕ). IfSome o (λ until. Waits c.args.k.now step.day step.stopped step.moment until)) c.in-Some.is (c.requires.waits c.if-is_quiet.true))
