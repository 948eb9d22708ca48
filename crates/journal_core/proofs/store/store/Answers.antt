use Rattle.host_core.proofs.Moments.{goes_on, rests}
use Rattle.host_core.proofs.Chains.{as_writes, writes_on}
use Rattle.journal_core.proofs.store.store.Goals as goal

pub returns-clause-moments : goal.returns-clause-moments
returns-clause-moments g c =
    let write = c.disk_write.ensures.writes in
    goes_on write.moments c.disk_sync.ensures.syncs.keeps.moments (rests write.moments write.keeps.sent)

pub returns-clause-keeps : goal.returns-clause-keeps
returns-clause-keeps g c = writes_on c.disk_write.ensures.writes.keeps (as_writes c.disk_sync.ensures.syncs.keeps)
