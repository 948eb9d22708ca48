use Rattle.journal_core.proofs.OneList.{alone}
use Rattle.journal_core.proofs.law.an_image_holds_one_list.Goals as goal

pub returns : goal.returns
returns c = alone
