use Rattle.std.proofs.Common.{[], ◌∷◌, refl, sym, ap, ◌∙◌, ◌≤◌, ◌<◌, length, arith}
use Rattle.std.specs.Prelude.{is_some}
use Rattle.std.proofs.lemmas.Slice.{pushed}
use Rattle.auction_core.proofs.Listed.{adds_none, adds_order, adds_over, held, holds_more}
use Rattle.auction_core.proofs.listing.Listing.add.Goals as goal

pub returns-then-len-ge-ORDERS : goal.returns-then-len-ge-ORDERS
returns-then-len-ge-ORDERS c = record {
  holds = λ lines holds.
      let items = held holds c.requires.some in
      let full : 1000000 ≤ length c.args.self.now.orders.items = omega (arith, c.if-len-ge-ORDERS.true, c.len.ensures, c.args.self.now.orders.ok.0) in
      holds_more c.args.line.now _ _ holds c.requires.some
      (adds_over c.args.line.now lines (ap is_some (sym holds.auction) ∙ c.requires.some) (sym holds.bad ∙ c.requires.going) (omega (arith, full, ap length items))) _ refl items refl;
}

pub returns-in_default : goal.returns-in_default
returns-in_default c = record {
  holds = λ lines holds.
      let items = held holds c.requires.some in
      let room : length c.args.self.now.orders.items < 1000000 = omega (arith, c.if-len-ge-ORDERS.false, c.len.ensures, c.args.self.now.orders.ok.0) in
      holds_more c.args.line.now _ _ holds c.requires.some
      (adds_none c.args.line.now lines (ap is_some (sym holds.auction) ∙ c.requires.some) (sym holds.bad ∙ c.requires.going) (omega (arith, room, ap length items)) (sym c.read_order.ensures ∙ c.in_default.is)) _ refl items refl;
}

pub returns : goal.returns
returns c = record {
  holds = λ lines holds.
      let items = held holds c.requires.some in
      let room : length c.args.self.now.orders.items < 1000000 = omega (arith, c.if-len-ge-ORDERS.false, c.len.ensures, c.args.self.now.orders.ok.0) in
      holds_more c.args.line.now _ _ holds c.requires.some
      (adds_order c.args.line.now lines _ (ap is_some (sym holds.auction) ∙ c.requires.some) (sym holds.bad ∙ c.requires.going) (omega (arith, room, ap length items)) (sym c.read_order.ensures ∙ c.in-Some.is)) _ refl
      (pushed (c.in-Some.order ∷ []) items c.in_ok-extend_from_slice.was c.extend_from_slice.ensures.items) c.requires.going;
}
