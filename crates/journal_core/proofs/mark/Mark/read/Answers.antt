use Rattle.std.proofs.Common.{arith}
use Rattle.journal_core.proofs.Marks.{read_by}
use Rattle.journal_core.proofs.mark.Mark.read.Goals as goal

pub returns : goal.returns
returns c = read_by c.of.result c.args.bytes.now c.u32_at.result (λ i. omega (arith, c.type_inv.bytes i)) c.if-bytes-lt-MARK_BYTES.false c.if-bytes-eq0.false c.u32_at.ensures c.of.ensures
