use Rattle.std.proofs.Common.{arith, subst, sym}
use Rattle.gen_core.specs.InternalState.{Steps}
use Rattle.gen_core.proofs.Given.{day_given, listing_given}
use Rattle.gen_core.proofs.generator.start_record.Goals as goal

pub returns-then-given-eq0 : goal.returns-then-given-eq0
returns-then-given-eq0 c =
    subst (λ x. Steps c.args.plan.now c.args.given x c.args.draws.now.number c.args.flags.now) (sym c.day_record.ensures)
    (day_given c.args.plan.now c.args.given _ _ c.requires.state c.if-given-eq0.true)

pub returns-else-given-eq0 : goal.returns-else-given-eq0
returns-else-given-eq0 c =
    subst (λ x. Steps c.args.plan.now c.args.given x c.args.draws.now.number c.args.flags.now) (sym c.listing.ensures)
    (listing_given c.args.plan.now c.args.given _ _ c.requires.state (omega (arith, c.if-given-eq0.false)) c.requires.start)
