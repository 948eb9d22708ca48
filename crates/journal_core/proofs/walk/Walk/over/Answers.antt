use Rattle.std.proofs.Common.{sym, ◌∙◌, rules}
use Rattle.host_core.proofs.Chains.{reads_on}
use Rattle.journal_core.proofs.walk.Walk.over.Goals as goal

pub returns-in_err-walk-clause-no_journal : goal.returns-in_err-walk-clause-no_journal
returns-in_err-walk-clause-no_journal g c is disk known = c.in_err-walk.ensures.no_journal (search rules) disk known

pub returns-in_err-to_end-clause-damaged : goal.returns-in_err-to_end-clause-damaged
returns-in_err-to_end-clause-damaged g c at is disk known =
    let mid = sym c.to_end.ensures.keeps.disk ∙ known in
    (_, c.in_err-to_end.ensures.damaged at (search rules) disk mid (c.in_ok-walk.ensures.walked disk mid))

pub returns-in_err-to_end-clause-keeps : goal.returns-in_err-to_end-clause-keeps
returns-in_err-to_end-clause-keeps g c = reads_on c.open.ensures.keeps c.to_end.ensures.keeps

pub returns-clause-walked : goal.returns-clause-walked
returns-clause-walked g c disk known =
    let mid = sym c.to_end.ensures.keeps.disk ∙ known in
    c.in_ok-to_end.ensures.walked disk mid (c.in_ok-walk.ensures.walked disk mid)

pub returns-clause-closed : goal.returns-clause-closed
returns-clause-closed g c disk known =
    let mid = sym c.to_end.ensures.keeps.disk ∙ known in
    c.in_ok-to_end.ensures.closed disk mid (c.in_ok-walk.ensures.walked disk mid)

pub returns-clause-keeps : goal.returns-clause-keeps
returns-clause-keeps g c = reads_on c.open.ensures.keeps c.to_end.ensures.keeps
