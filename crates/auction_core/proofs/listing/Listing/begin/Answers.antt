use Rattle.std.proofs.Common.{refl, sym, ◌∙◌}
use Rattle.auction_core.proofs.Listed.{begun_by, not_begun}
use Rattle.auction_core.proofs.listing.Listing.begin.Goals as goal

pub returns-in-Some : goal.returns-in-Some
returns-in-Some c = record {
  holds = λ lines holds.
      begun_by holds c.requires.going c.args.line.now c.requires.none c.in-Some.auction (sym c.in-Some.is ∙ c.read_auction.ensures.exact) _ refl refl refl;
}

pub returns-in-None : goal.returns-in-None
returns-in-None c = record {
  holds = λ lines holds.
      not_begun holds c.requires.going c.args.line.now c.requires.none (sym c.in-None.is ∙ c.read_auction.ensures.exact) _ refl refl refl;
}
