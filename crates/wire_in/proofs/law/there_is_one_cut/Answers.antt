use Rattle.wire_in.proofs.Streams.{cuts_alone}
use Rattle.wire_in.proofs.law.there_is_one_cut.Goals as goal

pub returns : goal.returns
returns c = cuts_alone
