use Rattle.std.proofs.Common.{◌≡◌, List, subst, rules}
use Rattle.std.specs.Prelude.{IfOk}
use Rattle.rulebook.specs.declared.event.Event.{Event}
use Rattle.afresh_core.specs.Ordered.{named_in}
use Rattle.afresh_core.proofs.Timely.{timely_obeyed_at, obeyed_rest}
use Rattle.afresh_core.proofs.rules.+obey_all.Goals as goal

pub obey_all-requires : goal.obey_all-requires
obey_all-requires t c =
    (search rules, timely_obeyed_at c.args.day.now (named_in c.args.s.now) c.args.x.now c.in-Some.rule.now c.args.h.items c.in_ok-published.published.items c.in_ok-published.ensures c.requires)

pub returns : goal.returns
returns t c =
    subst (λ (h : List Event). IfOk c.obey_all.result (λ evaluated. evaluated.items ≡ h))
    (obeyed_rest c.args.day.now (named_in c.args.s.now) c.args.x.now c.in-Some.rule.now c.in-Some.later.now c.args.rules.now c.args.h.items c.in_ok-published.published.items c.in-Some.ensures.cases.0 c.in_ok-published.ensures)
    c.obey_all.ensures
