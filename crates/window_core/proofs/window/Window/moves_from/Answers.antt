use Rattle.std.proofs.Common.{◌≡◌, ◌∷◌, ◌∙◌, false, ap, sym, subst, drop, arith}
use Rattle.std.proofs.lemmas.List.{drop_more}
use Rattle.window_core.specs.declared.window.Deal.{Deal}
use Rattle.window_core.specs.Deals.{live, mean_has_moved}
use Rattle.window_core.specs.Leaving.{IsQueue}
use Rattle.window_core.specs.Tallies.{Tallies}
use Rattle.window_core.specs.WindowState.{WindowState}
use Rattle.window_core.proofs.Leaves.{first_stays}
use Rattle.window_core.proofs.window.Window.moves_from.Goals as goal

pub few_move_from-requires-clause-queue : goal.few_move_from-requires-clause-queue
few_move_from-requires-clause-queue c = record {
  tallies = subst (λ (held : WindowState). Tallies c.tally-all.result.sum c.tally-all.result.count held.deals) (sym c.self.view_is) c.tally-all.ensures.tallies;
  priced = c.self.invariant.summed.priced;
  order = c.self.invariant.summed.order c.if-not-self.false;
}

pub returns : goal.returns
returns c =
    let deals = c.self.inside.items.items in
    let first = c.index.result.now in
    let queue : IsQueue c.tally-all.result.sum c.tally-all.result.count deals = record {
      tallies = subst (λ (held : WindowState). Tallies c.tally-all.result.sum c.tally-all.result.count held.deals) (sym c.self.view_is) c.tally-all.ensures.tallies;
      priced = c.self.invariant.summed.priced;
      order = c.self.invariant.summed.order c.if-not-self.false;
    } in
    record {
      near = λ u le before. subst (λ (held : WindowState). mean_has_moved c.args.reference (live u held.deals) ≡ false) c.self.view_is
          (first_stays c.args.reference c.args.from c.many_move_from.result c.tally-all.result.sum c.tally-all.result.count u deals (drop 1 deals) first queue
          (drop_more deals 0 first (omega (arith, c.if-len-le-FEW.false, c.len.ensures)) ∙ ap (λ (d : Deal). d ∷ drop 1 deals) (sym c.index.ensures))
          c.many_move_from.ensures.end c.many_move_from.ensures.unmoved le before);
    }
