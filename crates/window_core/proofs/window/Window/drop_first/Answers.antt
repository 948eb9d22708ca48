use Rattle.std.proofs.Common.{◌≤◌, ℕ, sym, subst, ◌∙◌}
use Rattle.window_core.proofs.Lasting.{lasts_rest}
use Rattle.window_core.proofs.Sums.{first_priced, summed_rest}
use Rattle.window_core.proofs.window.Window.drop_first.Goals as goal

pub overflow_sub-self : goal.overflow_sub-self
overflow_sub-self c =
    subst (λ (n : ℕ). n ≤ c.self.inside.sum) (sym (c.from.ensures ∙ c.units.ensures.value))
    (first_priced c.self.inside.sum c.self.inside.newest c.self.inside.is_ordered c.self.inside.items.items c.in-Some.deal (sym c.first.ensures ∙ c.in-Some.is) c.self.invariant.summed)

pub invariant_of-self : goal.invariant_of-self
invariant_of-self c = record {
  summed = summed_rest c.self.inside.sum c.self.inside.newest c.from.result c.self.inside.is_ordered c.self.inside.items.items c.pop_front.new.self.items c.in-Some.deal
      (sym c.first.ensures ∙ c.in-Some.is) (c.from.ensures ∙ c.units.ensures.value) c.pop_front.ensures.rest c.self.invariant.summed;
  lasting = lasts_rest c.self.inside.until c.self.inside.items.items c.pop_front.new.self.items c.pop_front.ensures.rest c.self.invariant.lasting;
}
