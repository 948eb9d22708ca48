use Rattle.std.proofs.Common.{List, filter, sym, subst, ap, ◌∙◌}
use Rattle.window_core.specs.declared.window.Deal.{Deal}
use Rattle.window_core.specs.Deals.{is_numbered, stays}
use Rattle.window_core.specs.WindowState.{WindowState}
use Rattle.window_core.specs.Tallies.{Tallies}
use Rattle.window_core.proofs.Lasting.{lasts_some}
use Rattle.window_core.proofs.RepresentsCalls.{represents-cancelled}
use Rattle.window_core.proofs.Sums.{none_numbered, numbered_most, summed_removed}
use Rattle.window_core.proofs.window.Window.cancel.Goals as goal

pub returns-then-removed-eq0-clause-deals : goal.returns-then-removed-eq0-clause-deals
returns-then-removed-eq0-clause-deals c =
    sym (none_numbered c.args.number c.args.self.now.deals (sym c.tally_number-removed.ensures.tallies.count_is ∙ c.if-removed-eq0.true))

pub overflow_sub-self : goal.overflow_sub-self
overflow_sub-self c =
    let removed = c.tally_number-removed.result in
    let gone = subst (λ (deals : List Deal). Tallies removed.sum removed.count (filter (is_numbered c.args.number) deals)) (sym (ap (λ (held : WindowState). held.deals) c.self.view_is)) c.tally_number-removed.ensures.tallies in
    numbered_most c.args.number removed.sum removed.count c.self.inside.newest c.self.inside.sum c.self.inside.is_ordered c.self.inside.items.items gone c.self.invariant.summed

pub invariant_of-self : goal.invariant_of-self
invariant_of-self c =
    let removed = c.tally_number-removed.result in
    let gone = subst (λ (deals : List Deal). Tallies removed.sum removed.count (filter (is_numbered c.args.number) deals)) (sym (ap (λ (held : WindowState). held.deals) c.self.view_is)) c.tally_number-removed.ensures.tallies in
    record {
      summed = summed_removed c.args.number removed.sum removed.count c.self.inside.newest c.self.inside.sum c.self.inside.is_ordered c.self.inside.items.items c.remove.new.deals.items
          c.remove.ensures.items gone c.self.invariant.summed;
      lasting = lasts_some c.self.inside.until (stays c.args.number) c.self.inside.items.items c.remove.new.deals.items c.remove.ensures.items c.self.invariant.lasting;
    }

pub returns-then-removed-eq0-clause-stands : goal.returns-then-removed-eq0-clause-stands
returns-then-removed-eq0-clause-stands c = λ calls stands.
    represents-cancelled c.args.self.now c.args.self.now c.args.number calls (returns-then-removed-eq0-clause-deals c) stands

pub returns-clause-stands : goal.returns-clause-stands
returns-clause-stands c = λ calls stands.
    represents-cancelled c.args.self.now _ c.args.number calls (ap (λ (held : WindowState). held.deals) c.renew_until.ensures ∙ c.remove.ensures.items ∙ ap (λ (held : WindowState). filter (stays c.args.number) held.deals) c.self.view_is) stands
