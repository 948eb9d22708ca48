use Rattle.std.proofs.Common.{sym, ◌∙◌}
use Rattle.roll_core.proofs.Adding.{adds_again, adds_to_none, adds_to_other}
use Rattle.roll_core.proofs.rolling.add.Goals as goal

-- no record was read
pub returns-in_default : goal.returns-in_default
returns-in_default g c = λ recovery f is. adds_to_none f.closed (g.met.H.Host.sent_now c.args.host.now) (is ∙ c.in_default.is)

-- the newest is no day
pub returns-then-not-is_day : goal.returns-then-not-is_day
returns-then-not-is_day g c = λ recovery f is. adds_to_other f.closed (g.met.H.Host.sent_now c.args.host.now) (is ∙ c.in-Some.is) (sym c.is_day.ensures ∙ c.if-not-is_day.true)

-- the journal ends with its base
pub returns-then-rolled : goal.returns-then-rolled
returns-then-rolled g c = λ recovery f is.
    adds_again f.closed (g.met.H.Host.sent_now c.args.host.now) (is ∙ c.in-Some.is) (sym c.is_day.ensures ∙ c.if-not-is_day.false) c.args.journal.now f.limit f.keeps (sym c.rolled.ensures ∙ c.if-rolled.true)

pub returns : goal.returns
returns g c = λ recovery f is. c.add_base_of.ensures recovery f (is ∙ c.in-Some.is) (sym c.is_day.ensures ∙ c.if-not-is_day.false)
