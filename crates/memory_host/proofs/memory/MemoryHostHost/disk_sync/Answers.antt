use Rattle.std.proofs.Common.{[], refl, sym, ◌∙◌, ap}
use Rattle.host_core.specs.declared.counts.FaultCounts.{FaultCounts}
use Rattle.host_core.specs.declared.counts.Side.TheVariants.{Disk}
use Rattle.memory_host.specs.Effects.{sent_of, disk_of}
use Rattle.memory_host.specs.declared.effect.Effect.TheVariants.{Synced}
use Rattle.memory_host.proofs.Pushed.{sent_of-push, disk_of-push}
use Rattle.memory_host.proofs.Remembered.{settled}
use Rattle.memory_host.proofs.Answered.{one_more, one_rose, none_rose, disk_rose, sync_failed, idle_reads, synced_reads}
use Rattle.memory_host.proofs.memory.MemoryHostHost.disk_sync.Goals as goal

pub returns-then-begin-clause-syncs : goal.returns-then-begin-clause-syncs
returns-then-begin-clause-syncs c =
    let host = c.args.self.now in
    let more = one_more Disk c.begin.ensures.faults c.fail.ensures.faults c.fail.ensures.later in
    let keeps = idle_reads _ _ _ _ _ _ host.ledger.faults host.sent_is host.disk_is _ _ c.fail.new.self.faults refl refl (one_rose more) in
    sync_failed c.fail.result c.fail.ensures.failed keeps (disk_rose more)

pub invariant_of-self-in-Ok-clause-sent_is : goal.invariant_of-self-in-Ok-clause-sent_is
invariant_of-self-in-Ok-clause-sent_is c =
    let host = c.args.self.now in
    host.sent_is ∙ sym (sent_of-push _ host.effects.items Synced) ∙ ap (sent_of _) (sym c.in-Ok.ensures.effect)

pub invariant_of-self-in-Ok-clause-disk_is : goal.invariant_of-self-in-Ok-clause-disk_is
invariant_of-self-in-Ok-clause-disk_is c =
    let host = c.args.self.now in
    host.disk_is ∙ sym (disk_of-push host.start.items host.effects.items Synced) ∙ ap (disk_of host.start.items) (sym c.in-Ok.ensures.effect)

pub returns-in-Ok-clause-syncs : goal.returns-in-Ok-clause-syncs
returns-in-Ok-clause-syncs c =
    let host = c.args.self.now in
    let same = c.begin.ensures.faults in
    let effect = c.in-Ok.ensures.effect in
    record {
      settled = settled [] _ _ _ _ [] 0 0 0 host.sent_is host.disk_is _ _ _ _ _ _ effect;
      keeps = synced_reads _ _ _ _ _ _ host.ledger.faults
          host.sent_is host.disk_is _ _ c.begin.new.self.faults effect refl (none_rose _ _ Disk same);
      cause = tt;
      faultless = ap (λ (f : FaultCounts). f.storing) same;
    }

pub returns-in-Err-clause-syncs : goal.returns-in-Err-clause-syncs
returns-in-Err-clause-syncs c =
    let host = c.args.self.now in
    let more = one_more Disk c.begin.ensures.faults c.starve.ensures.faults c.starve.ensures.later in
    let keeps = idle_reads _ _ _ _ _ _ host.ledger.faults
    host.sent_is host.disk_is _ _ c.starve.new.self.faults c.in-Err.ensures.same refl (one_rose more) in
    sync_failed c.starve.result c.starve.ensures.failed keeps (disk_rose more)
