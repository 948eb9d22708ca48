use Rattle.window_core.specs.Deals.{is_live}
use Rattle.window_core.proofs.Lasting.{lasts_some}
use Rattle.window_core.proofs.Sums.{summed_some}
use Rattle.window_core.proofs.window.Window.keep_live_of_all.Goals as goal

pub invariant_of-self : goal.invariant_of-self
invariant_of-self c = record {
  summed = summed_some c.self.inside.sum c.total_of-self-inside.result c.self.inside.newest c.self.inside.is_ordered (is_live c.args.t) c.self.inside.items.items c.keep_live.new.deals.items
      c.keep_live.ensures.items c.total_of-self-inside.ensures c.self.invariant.summed;
  lasting = lasts_some c.self.inside.until (is_live c.args.t) c.self.inside.items.items c.keep_live.new.deals.items c.keep_live.ensures.items c.self.invariant.lasting;
}
