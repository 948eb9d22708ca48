use Rattle.std.proofs.Common.{sym, ap, ◌+◌, ℕ, ◌∙◌}
use Rattle.host_core.specs.declared.status.Status.TheVariants.{BadText}
use Rattle.auction_core.proofs.Ending.{so_far_bad, so_far_good}
use Rattle.auction_core.proofs.listing.Listing.status.Goals as goal

pub returns-then-not-self-clause-end : goal.returns-then-not-self-clause-end
returns-then-not-self-clause-end c lines holds = sym (so_far_good lines (sym holds.bad ∙ c.if-not-self.true))

pub returns-clause-end : goal.returns-clause-end
returns-clause-end c lines holds =
    ap (λ (n : ℕ). BadText (n + 1)) (c.count.ensures.value lines holds) ∙ sym (so_far_bad lines (sym holds.bad ∙ c.if-not-self.false))
