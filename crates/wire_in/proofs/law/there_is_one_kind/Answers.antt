use Rattle.wire_in.proofs.RecordKinds.{kind_is_unique}
use Rattle.wire_in.proofs.law.there_is_one_kind.Goals as goal

pub returns : goal.returns
returns c = kind_is_unique
