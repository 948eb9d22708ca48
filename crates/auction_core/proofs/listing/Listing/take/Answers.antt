use Rattle.std.proofs.Common.{sym, ◌∙◌}
use Rattle.auction_core.proofs.Listed.{none_is}
use Rattle.auction_core.proofs.listing.Listing.take.Goals as goal

pub begin-requires : goal.begin-requires
begin-requires c = record { none = none_is _ (sym c.is_some.ensures ∙ c.if-is_some.false); going = c.requires.going }
