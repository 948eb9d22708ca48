use Rattle.std.proofs.Common.{◌≡◌, ◌++◌, List, [], get_or, drop, refl, sym, ap, ◌∙◌, append_assoc, arith}
use Rattle.std.proofs.lemmas.List.{append-nil, drop_more, nil_from_length, length-drop}
use Rattle.host_core.proofs.Chains.{onward, sends_nothing}
use Rattle.host_core.proofs.Causes.{no_fault, faultless}
use Rattle.stream_core.proofs.Pending.{expects_same}
use Rattle.stream_core.proofs.Sending.{sends_none, sends_longer, sends_on}
use Rattle.standby_core.specs.Rounds.{bytes_of, spelled}
use Rattle.standby_core.specs.declared.round.Reply.{Reply}
use Rattle.standby_core.specs.declared.round.Reply.TheVariants.{Have}
use Rattle.standby_core.proofs.replying.append_replies.Goals as goal

pub loop-reply-init : goal.loop-reply-init
loop-reply-init g c = record {
  pending = λ begin text expects. (text, expects, refl);
  moments = λ begin text expects.
      sends_longer text (spelled c.args.replies.now) _ refl (sends_none (g.H.Host.outside c.args.host.now) (g.met.H.Host.sent_now c.args.host.now) _ text expects);
  keeps = sends_nothing _;
  none = no_fault _;
}

pub loop-reply-preserved : goal.loop-reply-preserved
loop-reply-preserved g c =
    let reply = get_or c.args.replies.now c.loop-reply.reply-index (Have 0) in
    let split = drop_more c.args.replies.now c.loop-reply.reply-index (Have 0) c.loop-reply-test.true in
    record {
      pending = λ begin text expects.
          let now = c.loop-reply.invariant.pending begin text expects in (
            now.0 ++ bytes_of reply,
            c.in_ok-append_reply.ensures.pending begin now.0 now.1,
            append_assoc now.0 (bytes_of reply) _ ∙ ap (λ (rs : List Reply). now.0 ++ spelled rs) (sym split) ∙ now.2,
          );
      moments = λ begin text expects.
          let now = c.loop-reply.invariant.pending begin text expects in
          sends_on (c.loop-reply.invariant.moments begin text expects) now.0 _ now.2 (c.append_reply.ensures.moments begin now.0 now.1);
      keeps = onward c.loop-reply.invariant.keeps c.append_reply.ensures.outside.keeps;
      none = faultless c.loop-reply.invariant.none c.in_ok-append_reply.ensures.outside.causes;
    }

pub returns-in_err-append_reply-clause-moments : goal.returns-in_err-append_reply-clause-moments
returns-in_err-append_reply-clause-moments g c = λ begin text expects.
    let now = c.loop-reply.invariant.pending begin text expects in
    sends_on (c.loop-reply.invariant.moments begin text expects) now.0 _ now.2 (c.append_reply.ensures.moments begin now.0 now.1)

pub returns-clause-pending : goal.returns-clause-pending
returns-clause-pending g c = λ begin text expects.
    let now = c.loop-reply.invariant.pending begin text expects in
    let none : drop c.loop-reply.reply-index c.args.replies.now ≡ [] = nil_from_length _ (omega (arith, length-drop c.loop-reply.reply-index c.args.replies.now, c.loop-reply-test.false)) in
    expects_same _ _ (sym (append-nil now.0) ∙ ap (λ (rs : List Reply). now.0 ++ spelled rs) (sym none) ∙ now.2) now.1
