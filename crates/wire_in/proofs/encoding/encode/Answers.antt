use Rattle.wire_in.proofs.RoundTrip.{parts_again}
use Rattle.wire_in.proofs.encoding.encode.Goals as goal

pub returns-in-Day-clause-decodes : goal.returns-in-Day-clause-decodes
returns-in-Day-clause-decodes c = parts_again _ _ _ c.in-Day.is c.moment.ensures c.put_day.ensures.types c.requires

pub returns-in-Listing-clause-decodes : goal.returns-in-Listing-clause-decodes
returns-in-Listing-clause-decodes c = parts_again _ _ _ c.in-Listing.is c.moment-in-Listing.ensures c.put_listing.ensures.types c.requires

pub returns-in-Trade-clause-decodes : goal.returns-in-Trade-clause-decodes
returns-in-Trade-clause-decodes c = parts_again _ _ _ c.in-Trade.is c.moment-in-Trade.ensures c.put_trade.ensures.types c.requires

pub returns-in-Cancel-clause-decodes : goal.returns-in-Cancel-clause-decodes
returns-in-Cancel-clause-decodes c = parts_again _ _ _ c.in-Cancel.is c.moment-in-Cancel.ensures c.put_cancel.ensures.types c.requires

pub returns-in-Quote-clause-decodes : goal.returns-in-Quote-clause-decodes
returns-in-Quote-clause-decodes c = parts_again _ _ _ c.in-Quote.is c.moment-in-Quote.ensures c.put_quote.ensures.types c.requires

pub returns-in-IndexTick-clause-decodes : goal.returns-in-IndexTick-clause-decodes
returns-in-IndexTick-clause-decodes c = parts_again _ _ _ c.in-IndexTick.is c.moment-in-IndexTick.ensures c.put_index_tick.ensures.types c.requires

pub returns-in-Clock-clause-decodes : goal.returns-in-Clock-clause-decodes
returns-in-Clock-clause-decodes c = parts_again _ _ _ c.in-Clock.is c.moment-in-Clock.ensures c.put_clock.ensures.types c.requires

pub returns-in-Notice-clause-decodes : goal.returns-in-Notice-clause-decodes
returns-in-Notice-clause-decodes c = parts_again _ _ _ c.in-Notice.is c.moment-in-Notice.ensures c.put_notice.ensures.types c.requires

pub returns-in-Indication-clause-decodes : goal.returns-in-Indication-clause-decodes
returns-in-Indication-clause-decodes c = parts_again _ _ _ c.in-Indication.is c.moment-in-Indication.ensures c.put_indication.ensures.types c.requires
