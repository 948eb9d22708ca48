use Rattle.std.proofs.Common.{arith, subst, sym, ◌∙◌}
use Rattle.price_core.specs.Ranges.{IsPrice}
use Rattle.window_core.proofs.Lasting.{lasts_push}
use Rattle.window_core.proofs.Sums.{summed_push}
use Rattle.window_core.proofs.window.Window.add.Goals as goal

pub invariant_of-self : goal.invariant_of-self
invariant_of-self c = record {
  summed = summed_push c.self.inside.sum c.self.inside.newest c.later-self-inside.result c.from.result c.self.inside.is_ordered c.stays_ordered-self-inside.result c.self.inside.items.items c.push_deal.new.deals.items c.args.d
      (c.from.ensures ∙ c.units.ensures.value) (subst IsPrice c.units.ensures.value c.units.ensures.range) c.push_deal.ensures.items c.later-self-inside.ensures.first c.later-self-inside.ensures.second
      c.stays_ordered-self-inside.ensures c.self.invariant.summed;
  lasting = lasts_push c.self.inside.until _ c.self.inside.items.items c.push_deal.new.deals.items c.args.d c.push_deal.ensures.items (omega arith) (omega arith) c.self.invariant.lasting;
}
