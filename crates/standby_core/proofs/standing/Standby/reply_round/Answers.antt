use Rattle.std.proofs.Common.{◌++◌, List, subst}
use Rattle.host_core.specs.Outside.{Elapses}
use Rattle.stream_core.specs.Pending.{SendsPrefix}
use Rattle.standby_core.specs.declared.round.Reply.{Reply}
use Rattle.standby_core.specs.Rounds.{spelled}
use Rattle.standby_core.proofs.standing.Standby.reply_round.Goals as goal

pub returns-in_err-append_replies-clause-moments : goal.returns-in_err-append_replies-clause-moments
returns-in_err-append_replies-clause-moments g c = λ begin text expects.
    subst (λ (rs : List Reply). Elapses (g.H.Host.outside c.args.host.now) (g.H.Host.outside c.append_replies.new.host) (SendsPrefix begin (text ++ spelled rs) (g.H.Host.outside c.args.host.now))) c.replies.ensures.replies
    (c.append_replies.ensures.moments begin text expects)

pub returns-clause-moments : goal.returns-clause-moments
returns-clause-moments g c = λ begin text expects.
    subst (λ (rs : List Reply). Elapses (g.H.Host.outside c.args.host.now) (g.H.Host.outside c.append_replies.new.host) (SendsPrefix begin (text ++ spelled rs) (g.H.Host.outside c.args.host.now))) c.replies.ensures.replies
    (c.append_replies.ensures.moments begin text expects)
