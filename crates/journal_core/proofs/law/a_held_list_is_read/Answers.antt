use Rattle.journal_core.proofs.Readable.{readable}
use Rattle.journal_core.proofs.law.a_held_list_is_read.Goals as goal

pub returns : goal.returns
returns c = readable
