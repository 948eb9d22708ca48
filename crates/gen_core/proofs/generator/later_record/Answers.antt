use Rattle.gen_core.proofs.Given.{session_given}
use Rattle.gen_core.proofs.generator.later_record.Goals as goal

pub returns : goal.returns
returns c =
    session_given c.args.plan.now c.args.given _ _ _ _ _ c.requires.state c.requires.later c.requires.within
    c.session_record.ensures.record c.session_record.ensures.number c.session_record.ensures.flags
