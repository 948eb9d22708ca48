use Rattle.standby_core.proofs.Agreeing.{parts_are_kept}
use Rattle.standby_core.proofs.KeptLemmas.{kept_is_lawful, kept_is_part}
use Rattle.standby_core.proofs.law.one_list_is_kept.Goals as goal

pub returns-clause-lawful : goal.returns-clause-lawful
returns-clause-lawful c = kept_is_lawful

pub returns-clause-part : goal.returns-clause-part
returns-clause-part c = kept_is_part

pub returns-clause-whole : goal.returns-clause-whole
returns-clause-whole c = parts_are_kept
