use Rattle.rulebook.proofs.Lawful.{few_names_opened}
use Rattle.afresh_core.proofs.Histories.{timely_before}
use Rattle.afresh_core.proofs.book.+history.Goals as goal

pub step-requires-clause-timely : goal.step-requires-clause-timely
step-requires-clause-timely t c = timely_before c.in-Some.earlier.now c.in_ok-before.before.items c.in_ok-before.ensures

pub step-requires-clause-few : goal.step-requires-clause-few
step-requires-clause-few t c =
    few_names_opened 18446744073709551615 c.args.accepted.now c.in-Some.earlier.now c.in-Some.x.now c.in_ok-before.before.items c.requires c.in-Some.ensures.cases.0 c.in_ok-before.ensures
