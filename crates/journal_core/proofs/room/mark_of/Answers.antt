use Rattle.std.proofs.Common.{length, ap, arith}
use Rattle.wire_in.proofs.OneBase.{few_carried}
use Rattle.journal_core.proofs.room.mark_of.Goals as goal

pub overflow_cast-carried : goal.overflow_cast-carried
overflow_cast-carried c = omega (arith, few_carried c.args.base.now c.requires, ap length c.list-2.ensures)

pub overflow_mul-result-2 : goal.overflow_mul-result-2
overflow_mul-result-2 c = omega (arith, few_carried c.args.base.now c.requires, c.requires.few, ap length c.list.ensures, ap length c.list-2.ensures)

pub overflow_add-result-3 : goal.overflow_add-result-3
overflow_add-result-3 c = omega (arith, few_carried c.args.base.now c.requires, c.requires.few, ap length c.list.ensures, ap length c.list-2.ensures)
