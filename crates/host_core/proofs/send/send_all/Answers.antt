use Rattle.std.proofs.lemmas.List.{take_rest}
use Rattle.std.proofs.lemmas.Result.{MatchResult-from_err}
use Rattle.host_core.proofs.Sending.{begun, grown_more, moments_more, sent_more}
use Rattle.host_core.proofs.send.send_all.Goals as goal

pub loop-done-init : goal.loop-done-init
loop-done-init g c = begun c.args.piece.now (g.H.Host.outside c.args.host.now) (g.met.H.Host.sent_now c.args.host.now)

pub loop-done-preserved : goal.loop-done-preserved
loop-done-preserved g c =
    let sends = rw take_rest at c.in_ok-done.ensures.sends in
    sent_more c.loop-done.invariant (g.H.Host.outside c.send.new.self) c.in_ok-done.field-0 sends.sent.1 sends.moments sends.keeps sends.faultless

pub returns-in_err-done-clause-partly : goal.returns-in_err-done-clause-partly
returns-in_err-done-clause-partly g c =
    let sends = rw take_rest at c.in_err-done.ensures.sends in
    let more = grown_more c.loop-done.invariant (g.H.Host.outside c.send.new.self) sends.sent.0 sends.sent.1 in
    MatchResult-from_err c.from_residual.result _ _ c.from_residual.ensures.0 (λ _. (_, more))

pub returns-in_err-done-clause-moments : goal.returns-in_err-done-clause-moments
returns-in_err-done-clause-moments g c =
    let sends = rw take_rest at c.in_err-done.ensures.sends in
    moments_more c.loop-done.invariant (g.H.Host.outside c.send.new.self) sends.moments
