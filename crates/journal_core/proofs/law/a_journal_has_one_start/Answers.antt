use Rattle.journal_core.proofs.Starts.{one_start}
use Rattle.journal_core.proofs.law.a_journal_has_one_start.Goals as goal

pub returns : goal.returns
returns c = one_start
