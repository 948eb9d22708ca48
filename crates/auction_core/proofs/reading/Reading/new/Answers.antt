use Rattle.std.proofs.Common.{refl}
use Rattle.auction_core.proofs.Readings.{reads_none}
use Rattle.auction_core.proofs.reading.Reading.new.Goals as goal

pub returns-clause-reads : goal.returns-clause-reads
returns-clause-reads c = reads_none _ c.new.ensures refl c.new-2.ensures.items refl
