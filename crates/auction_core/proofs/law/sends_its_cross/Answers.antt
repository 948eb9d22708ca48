use Rattle.auction_core.proofs.Texting.{lines_have_text, texts_are_same}
use Rattle.auction_core.proofs.law.sends_its_cross.Goals as goal

pub returns : goal.returns
returns c = record { exists = lines_have_text; same = texts_are_same }
