use Rattle.std.proofs.Common.{ℕ, List, ◌≤◌, ◌++◌, [], length, refl, sym, ◌∙◌, ap, arith, rules}
use Rattle.host_core.specs.declared.counts.FaultCounts.{FaultCounts}
use Rattle.host_core.specs.declared.counts.Side.TheVariants.{Sink}
use Rattle.std.specs.Prelude.{map}
use Rattle.memory_host.specs.Requests.{ask_of}
use Rattle.memory_host.specs.Effects.{sent_of, disk_of}
use Rattle.memory_host.specs.declared.effect.Effect.TheVariants.{Sent}
use Rattle.memory_host.proofs.Pushed.{sent_of-push, disk_of-push}
use Rattle.memory_host.proofs.Remembered.{not_sent, replied, nothing_sent}
use Rattle.memory_host.proofs.Requested.{kept_asks, still_behind}
use Rattle.memory_host.proofs.Answered.{one_more, one_rose, none_rose, sink_rose, send_failed, sends}
use Rattle.memory_host.proofs.memory.MemoryHostHost.send.Goals as goal

pub returns-then-begin-clause-sends : goal.returns-then-begin-clause-sends
returns-then-begin-clause-sends c =
    let host = c.args.self.now in
    let more = one_more Sink c.begin.ensures.faults c.fail.ensures.faults c.fail.ensures.later in
    let moments = not_sent _ _ _ _ _ _ _ _ _ host.sent_is host.disk_is c.args.piece.now _ refl _ _ _ _ _ _ _ in
    send_failed c.fail.result c.args.piece.now c.fail.ensures.failed (nothing_sent _ _ c.args.piece.now refl) moments
    (sends _ _ _ _ _ _ host.ledger.faults _ _ c.fail.new.self.faults _ _ refl (one_rose more) moments) (sink_rose more)

pub invariant_of-self-in-Ok-clause-sent_is : goal.invariant_of-self-in-Ok-clause-sent_is
invariant_of-self-in-Ok-clause-sent_is c =
    let host = c.args.self.now in
    let effect = c.in-Ok.ensures.effect in
    c.in-Ok.ensures.bytes
    ∙ ap (λ l. host.sent.items ++ l) (sym effect.1)
    ∙ ap (λ l. l ++ effect.0.items) host.sent_is
    ∙ sym (sent_of-push [] host.effects.items (Sent effect.0))
    ∙ ap (sent_of []) (sym effect.2)

pub invariant_of-self-in-Ok-clause-disk_is : goal.invariant_of-self-in-Ok-clause-disk_is
invariant_of-self-in-Ok-clause-disk_is c =
    let host = c.args.self.now in
    let effect = c.in-Ok.ensures.effect in
    host.disk_is ∙ sym (disk_of-push host.start.items host.effects.items (Sent effect.0)) ∙ ap (disk_of host.start.items) (sym effect.2)

pub invariant_of-self-in-Ok-clause-behind : goal.invariant_of-self-in-Ok-clause-behind
invariant_of-self-in-Ok-clause-behind c =
    let host = c.args.self.now in
    still_behind host.input.items host.sent.items host.requests.items _ _ c.in-Ok.ensures.bytes host.behind

pub returns-in-Ok-clause-sends : goal.returns-in-Ok-clause-sends
returns-in-Ok-clause-sends c =
    let host = c.args.self.now in
    let same = c.begin.ensures.faults in
    let effect = c.in-Ok.ensures.effect in
    let asks = kept_asks host.input.items host.sent.items host.requests.items _ _ c.in-Ok.ensures.bytes host.behind in
    let within : c.min-count.result ≤ length c.args.piece.now = omega (arith, c.min-count.ensures) in
    let moments = replied _ _ _ _ _ _ _ _ _ host.sent_is host.disk_is effect.0 c.args.piece.now _ effect.1 within _ effect.2 _ _ _ _ _ in
    record {
      sent = search rules;
      moments = moments;
      keeps = sends _ _ _ _ _ _ host.ledger.faults _ _ c.begin.new.self.faults _ _ asks (none_rose _ _ Sink same) moments;
      cause = tt;
      faultless = ap (λ (f : FaultCounts). f.sending) same;
    }

pub returns-in-Err-clause-sends : goal.returns-in-Err-clause-sends
returns-in-Err-clause-sends c =
    let host = c.args.self.now in
    let same = c.in-Err.ensures.same_bytes in
    let more = one_more Sink c.begin.ensures.faults c.starve.ensures.faults c.starve.ensures.later in
    let asks = ap (λ (sent : List ℕ). map (ask_of host.input.items sent) host.requests.items) same in
    let moments = not_sent _ _ _ _ _ _ _ _ _ host.sent_is host.disk_is c.args.piece.now _ c.in-Err.ensures.same_effects _ _ _ _ _ _ _ in
    send_failed c.starve.result c.args.piece.now c.starve.ensures.failed (nothing_sent _ _ c.args.piece.now same) moments
    (sends _ _ _ _ _ _ host.ledger.faults _ _ c.starve.new.self.faults _ _ asks (one_rose more) moments) (sink_rose more)
