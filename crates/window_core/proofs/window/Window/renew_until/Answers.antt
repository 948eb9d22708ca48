use Rattle.std.proofs.Common.{arith, sym, ◌∙◌}
use Rattle.window_core.specs.Summed.{LastUntil}
use Rattle.window_core.proofs.Lasting.{lasts_by_first, lasts_none}
use Rattle.window_core.proofs.window.Window.renew_until.Goals as goal
use Rattle.window_core.proofs.window.Window.renew_until.Goals.{in-Some, in-None}

pub invariant_of-self : goal.invariant_of-self
invariant_of-self c =
    let deals = c.self.inside.items.items in
    record {
      summed = c.self.invariant.summed;
      lasting = elim c.match-first.branch as (λ w. LastUntil c.match-first.self deals) [
        | in-Some w ↦ lasts_by_first c.match-first.self deals w.in-Some.deal (c.self.invariant.summed.order c.if-self.true) (sym c.first.ensures ∙ w.in-Some.is) (omega arith)
        | in-None w ↦ lasts_none c.match-first.self deals (sym c.first.ensures ∙ w.in-None.is)
      ];
    }
