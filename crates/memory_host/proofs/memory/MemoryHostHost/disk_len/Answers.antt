use Rattle.std.proofs.Common.{refl, ap, rules}
use Rattle.host_core.specs.declared.counts.FaultCounts.{FaultCounts}
use Rattle.host_core.specs.declared.counts.Side.TheVariants.{Disk}
use Rattle.memory_host.proofs.Answered.{one_more, one_rose, none_rose, disk_rose, measure_failed, idle_reads}
use Rattle.memory_host.proofs.memory.MemoryHostHost.disk_len.Goals as goal

pub returns-then-begin-clause-measures : goal.returns-then-begin-clause-measures
returns-then-begin-clause-measures c =
    let host = c.args.self.now in
    let more = one_more Disk c.begin.ensures.faults c.fail.ensures.faults c.fail.ensures.later in
    let keeps = idle_reads _ _ _ _ _ _ host.ledger.faults host.sent_is host.disk_is _ _ c.fail.new.self.faults refl refl (one_rose more) in
    measure_failed c.fail.result c.fail.ensures.failed keeps (disk_rose more)

pub returns-clause-measures : goal.returns-clause-measures
returns-clause-measures c =
    let host = c.args.self.now in
    let same = c.begin.ensures.faults in
    record {
      len = search rules;
      keeps = idle_reads _ _ _ _ _ _ host.ledger.faults
          host.sent_is host.disk_is _ _ c.begin.new.self.faults refl refl (none_rose _ _ Disk same);
      cause = tt;
      faultless = ap (λ (f : FaultCounts). f.storing) same;
    }
