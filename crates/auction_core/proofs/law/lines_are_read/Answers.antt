use Rattle.auction_core.proofs.Found.{auctions_are_read, orders_are_read}
use Rattle.auction_core.proofs.law.lines_are_read.Goals as goal

pub returns : goal.returns
returns c = record { auctions = auctions_are_read; orders = orders_are_read }
