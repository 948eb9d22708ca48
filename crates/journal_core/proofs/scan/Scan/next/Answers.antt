use Rattle.std.proofs.Common.{⊎_elim, ◌++◌, ◌∷◌, [], sym, ◌∙◌}
use Rattle.host_core.proofs.Chains.{still_settled}
use Rattle.journal_core.proofs.ScanLemmas.{took_batch, damaged_disk}
use Rattle.journal_core.proofs.scan.Scan.next.Goals as goal

pub returns-in_err-fill-clause-settled : goal.returns-in_err-fill-clause-settled
returns-in_err-fill-clause-settled g c = still_settled c.fill.ensures.keeps.moments c.fill.ensures.keeps.disk

pub returns-clause-settled : goal.returns-clause-settled
returns-clause-settled g c = still_settled c.fill.ensures.keeps.moments c.fill.ensures.keeps.disk

pub returns-clause-batch : goal.returns-clause-batch
returns-clause-batch g c is batches disk known read =
    let took = c.take_at_gate.ensures.batch is in
    took_batch c.fill.new.self c.take_at_gate.new.self c.take_at_gate.new.into took.0 took.1 took.2 c.take_at_gate.ensures.capacity c.take_at_gate.ensures.base c.take_at_gate.ensures.size took.4 batches disk (c.fill.ensures.reads batches disk known read)

pub returns-clause-same : goal.returns-clause-same
returns-clause-same g c other batches disk known read =
    ⊎_elim (λ is. absurd (other is)) (λ reads. reads batches disk (c.fill.ensures.reads batches disk known read)) c.take_at_gate.ensures.reads

pub returns-clause-damaged : goal.returns-clause-damaged
returns-clause-damaged g c at is batches disk known read =
    let damage = c.take_at_gate.ensures.damaged at is in
    rw damage.0 (damaged_disk c.fill.new.self batches disk (c.fill.ensures.reads batches disk known read) c.in_ok-fill.ensures.enough damage.2)

pub returns-clause-of_disk : goal.returns-clause-of_disk
returns-clause-of_disk g c of_disk disk known =
    let before = of_disk disk (sym c.fill.ensures.keeps.disk ∙ known) in
    let read = c.fill.ensures.reads before.0 disk (sym c.fill.ensures.keeps.disk ∙ known) before.1 in
    ⊎_elim (λ is.
    let took = c.take_at_gate.ensures.batch is in
    (before.0 ++ c.take_at_gate.new.into ∷ [], took_batch c.fill.new.self c.take_at_gate.new.self c.take_at_gate.new.into took.0 took.1 took.2 c.take_at_gate.ensures.capacity c.take_at_gate.ensures.base c.take_at_gate.ensures.size took.4 before.0 disk read))
    (λ reads. (before.0, reads before.0 disk read)) c.take_at_gate.ensures.reads
