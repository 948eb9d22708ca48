use Rattle.gen_core.proofs.Sending.{begun, one_more, moments_on}
use Rattle.gen_core.proofs.send.send_rest.Goals as goal

pub loop-record-init : goal.loop-record-init
loop-record-init g c = begun c.args.generator.now c.args.outbox.now (g.H.Host.outside c.args.host.now) (g.met.H.Host.sent_now c.args.host.now) c.requires.fresh

pub loop-record-preserved : goal.loop-record-preserved
loop-record-preserved g c =
    let was = c.loop-record.invariant in
    one_more was c.in-Some.record c.next.new.self c.append_record.new.outbox c.in-Some.ensures.first
    (c.in_ok-append_record.ensures.pending _ was.done was.expects) (c.append_record.ensures.moments _ was.done was.expects)
    c.append_record.ensures.outside.keeps c.in_ok-append_record.ensures.outside.causes

pub returns-in_err-append_record-clause-moments : goal.returns-in_err-append_record-clause-moments
returns-in_err-append_record-clause-moments g c =
    let was = c.loop-record.invariant in
    moments_on was (c.append_record.ensures.moments _ was.done was.expects)

pub returns-clause-moments : goal.returns-clause-moments
returns-clause-moments g c =
    let was = c.loop-record.invariant in
    moments_on was (c.flush.ensures.moments _ was.done was.expects)
