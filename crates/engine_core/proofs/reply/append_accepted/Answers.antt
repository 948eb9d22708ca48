use Rattle.std.proofs.Common.{◌≡◌, ℕ, Bool, true, false, List, [], ◌∷◌, ◌++◌, append_assoc, append-nil, rules}
use Rattle.wire_out.specs.declared.message.Frame.TheVariants.{Ack}
use Rattle.wire_out.specs.declared.message.Stamped.{Stamped}
use Rattle.rulebook.specs.Sent.{spelled, numbered}
use Rattle.rulebook.proofs.Sending.{spelled-append, unacknowledged-step}
use Rattle.engine_core.specs.Sessions.{with_acknowledgements}
use Rattle.stream_core.proofs.Sending.{sends_longer, sends_on}
use Rattle.engine_core.proofs.reply.append_accepted.Goals as goal

-- messages, and then an acknowledgement, where there is one
acknowledged : (acknowledges : Bool) (text : List ℕ) (before input : ℕ) (messages : List Stamped)
    → (text ++ spelled (numbered before messages)) ++ spelled (with_acknowledgements acknowledges (Ack input ∷ [])) ≡ text ++ spelled (with_acknowledgements acknowledges (numbered before messages ++ Ack input ∷ []))
acknowledged true text before input messages = simp (append_assoc, spelled-append)
acknowledged false text before input messages = simp (append-nil, unacknowledged-step)

pub returns-in_err-append_messages-clause-appends : goal.returns-in_err-append_messages-clause-appends
returns-in_err-append_messages-clause-appends g c begin text expects =
    let is = acknowledged c.args.acknowledges text c.args.before c.args.input c.args.messages.now in
    record { pending = search rules; moments = sends_longer _ _ _ is (c.append_messages.ensures.moments begin text expects) }

pub returns-clause-appends : goal.returns-clause-appends
returns-clause-appends g c begin text expects =
    let is = acknowledged c.args.acknowledges text c.args.before c.args.input c.args.messages.now in
    let first = c.in_ok-append_messages.ensures.pending begin text expects in
    record {
      pending = rw is at (c.acknowledge.ensures.pending begin _ first);
      moments = sends_on (sends_longer _ _ _ is (c.append_messages.ensures.moments begin text expects)) _ _ is (c.acknowledge.ensures.moments begin _ first);
    }
