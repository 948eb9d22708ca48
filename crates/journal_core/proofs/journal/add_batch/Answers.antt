use Rattle.std.proofs.Common.{[], ◌∷◌, length, ap, arith, length-append}
use Rattle.std.proofs.lemmas.Result.{IfOk-weaker}
use Rattle.host_core.proofs.Moments.{widened}
use Rattle.journal_core.specs.Layout.{IsBatch, content}
use Rattle.journal_core.proofs.Appended.{batch_stages}
use Rattle.journal_core.proofs.FrameLemmas.{frames_most}
use Rattle.journal_core.proofs.journal.add_batch.Goals as goal

pub returns-clause-moments : goal.returns-clause-moments
returns-clause-moments g c capacity records rest =
    let batch = c.args.batch.now in
    let valid : IsBatch batch = record { least = c.requires.least; most = c.requires.most; sound = c.put_content-end.ensures.sound } in
    widened (rw c.put_content-end.ensures.bytes at c.add.ensures.stages rest.settled) _ (batch_stages _ capacity c.args.gate records batch valid rest)

pub returns-clause-within : goal.returns-clause-within
returns-clause-within g c = rw c.put_content-end.ensures.bytes at c.add.ensures.within

pub returns-clause-written : goal.returns-clause-written
returns-clause-written g c = rw c.put_content-end.ensures.bytes at c.add.ensures.written

pub returns-clause-valid : goal.returns-clause-valid
returns-clause-valid g c =
    let batch = c.args.batch.now in
    let valid : IsBatch batch = record { least = c.requires.least; most = c.requires.most; sound = c.put_content-end.ensures.sound } in
    IfOk-weaker c.add.result _ _ (λ next is. valid) c.add.ensures.next

pub returns-clause-offset : goal.returns-clause-offset
returns-clause-offset g c =
    let batch = c.args.batch.now in
    let size = ap length c.put_content-end.ensures.bytes in
    IfOk-weaker c.add.result _ _ (λ next is. omega (arith, is, size, length-append (content batch) (0 ∷ []))) c.add.ensures.next

pub returns-clause-next : goal.returns-clause-next
returns-clause-next g c =
    let batch = c.args.batch.now in
    let most = frames_most batch c.put_content-end.ensures.sound in
    let size = ap length c.put_content-end.ensures.bytes in
    IfOk-weaker c.add.result _ _ (λ next is. (omega (arith, is), omega (arith, is, size, length-append (content batch) (0 ∷ []), most, c.requires.least))) c.add.ensures.next
