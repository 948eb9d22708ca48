use Rattle.std.proofs.Common.{length, refl, ap, ◌∙◌, append_assoc, arith}
use Rattle.host_core.proofs.Chains.{onward, sends_nothing}
use Rattle.host_core.proofs.Causes.{no_fault, faultless}
use Rattle.stream_core.proofs.Sending.{sends_none, sends_longer, sends_on}
use Rattle.engine_core.proofs.Answering.{drop_one}
use Rattle.engine_core.proofs.reply.append_each.Goals as goal

pub loop-message-init : goal.loop-message-init
loop-message-init g c = record {
  number = omega arith;
  pending = λ begin text expects. (text, expects, refl);
  moments = λ begin text expects.
      sends_longer text _ _ refl
      (sends_none (g.H.Host.outside c.args.host.now) (g.met.H.Host.sent_now c.args.host.now) _ text expects);
  keeps = sends_nothing _;
  none = no_fault _;
  empty = λ none. (refl, refl);
}

pub loop-message-preserved : goal.loop-message-preserved
loop-message-preserved g c =
    let split = drop_one c.args.messages.now c.loop-message.message-index c.message-item.result c.loop-message-test.true c.message-item.is in
    record {
      number = omega (arith, c.loop-message.invariant.number);
      pending = λ begin text expects.
          let now = c.loop-message.invariant.pending begin text expects in
          (_, c.in_ok-append_numbered.ensures.pending begin now.0 now.1, append_assoc now.0 _ _ ∙ rw split at now.2);
      moments = λ begin text expects.
          let now = c.loop-message.invariant.pending begin text expects in
          sends_on (c.loop-message.invariant.moments begin text expects) now.0 _ now.2 (c.append_numbered.ensures.moments begin now.0 now.1);
      keeps = onward c.loop-message.invariant.keeps c.append_numbered.ensures.outside.keeps;
      none = faultless c.loop-message.invariant.none c.in_ok-append_numbered.ensures.outside.causes;
      empty = λ none. absurd (omega (arith, ap length none, c.loop-message-test.true));
    }

pub returns-in_err-append_numbered-clause-moments : goal.returns-in_err-append_numbered-clause-moments
returns-in_err-append_numbered-clause-moments g c = λ begin text expects.
    let now = c.loop-message.invariant.pending begin text expects in
    sends_on (c.loop-message.invariant.moments begin text expects) now.0 _ now.2 (c.append_numbered.ensures.moments begin now.0 now.1)

pub returns-in_err-append_numbered-clause-none : goal.returns-in_err-append_numbered-clause-none
returns-in_err-append_numbered-clause-none g c = λ none. absurd (omega (arith, ap length none, c.loop-message-test.true))

pub returns-clause-none : goal.returns-clause-none
returns-clause-none g c = λ none. (refl, (c.loop-message.invariant.empty none).0, (c.loop-message.invariant.empty none).1)
