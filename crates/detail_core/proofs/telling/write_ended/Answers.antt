use Rattle.std.proofs.lemmas.Result.{on_err_weaker}
use Rattle.detail_core.proofs.Parts.{part_second}
use Rattle.detail_core.proofs.telling.write_ended.Goals as goal

pub returns-clause-partly : goal.returns-clause-partly
returns-clause-partly g c = on_err_weaker c.write_all-2.result (part_second _ _ _ _ _ c.in_ok-write_all.ensures.written) c.write_all-2.ensures.partly
