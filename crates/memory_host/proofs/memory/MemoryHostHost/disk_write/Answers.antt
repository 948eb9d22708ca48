use Rattle.std.proofs.Common.{refl, sym, ◌∙◌, ap, rules}
use Rattle.host_core.specs.declared.counts.FaultCounts.{FaultCounts}
use Rattle.host_core.specs.declared.counts.Side.TheVariants.{Disk}
use Rattle.host_core.specs.Outside.{written}
use Rattle.memory_host.specs.Effects.{sent_of, disk_of}
use Rattle.memory_host.specs.declared.effect.Effect.TheVariants.{Wrote, Tore}
use Rattle.memory_host.proofs.Pushed.{sent_of-push, disk_of-push}
use Rattle.memory_host.proofs.Remembered.{not_written, wrote, tore}
use Rattle.memory_host.proofs.Answered.{one_more, one_rose, none_rose, disk_rose, write_failed, writes}
use Rattle.memory_host.proofs.memory.MemoryHostHost.disk_write.Goals as goal

pub invariant_of-self-clause-sent_is : goal.invariant_of-self-clause-sent_is
invariant_of-self-clause-sent_is c =
    let host = c.args.self.now in
    let effect = c.in-Ok.ensures.effect in
    host.sent_is ∙ sym (sent_of-push _ host.effects.items (Tore c.args.at effect.0)) ∙ ap (sent_of _) (sym effect.2)

pub invariant_of-self-clause-disk_is : goal.invariant_of-self-clause-disk_is
invariant_of-self-clause-disk_is c =
    let host = c.args.self.now in
    let effect = c.in-Ok.ensures.effect in
    host.disk_is ∙ sym (disk_of-push host.start.items host.effects.items (Tore c.args.at effect.0)) ∙ ap (disk_of host.start.items) (sym effect.2)

pub returns-in-Ok-clause-writes : goal.returns-in-Ok-clause-writes
returns-in-Ok-clause-writes c =
    let host = c.args.self.now in
    let effect = c.in-Ok.ensures.effect in
    let more = one_more Disk c.begin.ensures.faults c.fail.ensures.faults c.fail.ensures.later in
    let moments = tore _ _ _ _ _ _ _ _ _ host.sent_is host.disk_is c.args.at effect.0 c.args.piece.now effect.1 _ effect.2 _ _ _ _ in
    write_failed c.fail.result _ c.args.piece.now c.fail.ensures.failed moments
    (writes _ _ _ _ _ _ host.ledger.faults _ _ c.fail.new.self.faults _ refl (one_rose more)) (disk_rose more)

pub returns-in-Err-clause-writes : goal.returns-in-Err-clause-writes
returns-in-Err-clause-writes c =
    let host = c.args.self.now in
    let more = one_more Disk c.begin.ensures.faults c.starve.ensures.faults c.starve.ensures.later in
    let moments = not_written _ _ _ _ _ _ _ _ _ host.sent_is host.disk_is _ _ _ c.in-Err.ensures.same _ _ _ _ _ _ _ in
    write_failed c.starve.result _ c.args.piece.now c.starve.ensures.failed moments
    (writes _ _ _ _ _ _ host.ledger.faults _ _ c.starve.new.self.faults _ refl (one_rose more)) (disk_rose more)

pub invariant_of-self-in-Ok-wrote_at-clause-sent_is : goal.invariant_of-self-in-Ok-wrote_at-clause-sent_is
invariant_of-self-in-Ok-wrote_at-clause-sent_is c =
    let host = c.args.self.now in
    let effect = c.in-Ok-wrote_at.ensures.effect in
    host.sent_is ∙ sym (sent_of-push _ host.effects.items (Wrote c.args.at effect.0)) ∙ ap (sent_of _) (sym effect.2)

pub invariant_of-self-in-Ok-wrote_at-clause-disk_is : goal.invariant_of-self-in-Ok-wrote_at-clause-disk_is
invariant_of-self-in-Ok-wrote_at-clause-disk_is c =
    let host = c.args.self.now in
    let effect = c.in-Ok-wrote_at.ensures.effect in
    c.in-Ok-wrote_at.ensures.bytes
    ∙ ap (λ l. written c.args.at l host.disk.items) (sym effect.1)
    ∙ ap (written c.args.at effect.0.items) host.disk_is
    ∙ sym (disk_of-push host.start.items host.effects.items (Wrote c.args.at effect.0))
    ∙ ap (disk_of host.start.items) (sym effect.2)

pub returns-in-Ok-wrote_at-clause-writes : goal.returns-in-Ok-wrote_at-clause-writes
returns-in-Ok-wrote_at-clause-writes c =
    let host = c.args.self.now in
    let same = c.begin.ensures.faults in
    let effect = c.in-Ok-wrote_at.ensures.effect in
    record {
      written_is = search rules;
      moments = wrote _ _ _ _ _ _ _ _ _ host.sent_is host.disk_is c.args.at effect.0 c.args.piece.now effect.1 _ effect.2 _ _ _ _ _;
      keeps = writes _ _ _ _ _ _ host.ledger.faults _ _ c.begin.new.self.faults _ refl (none_rose _ _ Disk same);
      cause = tt;
      faultless = ap (λ (f : FaultCounts). f.storing) same;
    }

pub returns-in-Err-wrote_at-clause-writes : goal.returns-in-Err-wrote_at-clause-writes
returns-in-Err-wrote_at-clause-writes c =
    let host = c.args.self.now in
    let starve = c.starve-in-Err-wrote_at in
    let more = one_more Disk c.begin.ensures.faults starve.ensures.faults starve.ensures.later in
    let moments = not_written _ _ _ _ _ _ _ _ _ host.sent_is host.disk_is _ _ _ c.in-Err-wrote_at.ensures.same_effects _ _ _ _ _ _ _ in
    write_failed starve.result _ c.args.piece.now starve.ensures.failed moments
    (writes _ _ _ _ _ _ host.ledger.faults _ _ starve.new.self.faults _ refl (one_rose more)) (disk_rose more)
