use Rattle.journal_core.proofs.walk.Walk.next.Goals as goal

pub returns-clause-closed : goal.returns-clause-closed
returns-clause-closed g c is disk known h = c.step.ensures.closed is disk (c.fill.ensures.walked disk known h)
