use Rattle.std.proofs.Common.{ℕ, sym, ap, ◌∙◌}
use Rattle.std.specs.Prelude.{Option}
use Rattle.price_core.specs.declared.quote.Cause.TheVariants.{First}
use Rattle.refprice_core.specs.Prices.{because, observed}
use Rattle.refprice_core.specs.ReferenceState.{ReferenceState}
use Rattle.window_core.specs.Deals.{live, mean_of}
use Rattle.rulebook.specs.Rules.{or_else}
use Rattle.symbol_core.specs.Pricing.{offered, priced_by}
use Rattle.symbol_core.specs.Window.{window}
use Rattle.symbol_core.proofs.Waiting.{released-first, released-none}
use Rattle.symbol_core.specs.InStep.{in_step}
use Rattle.symbol_core.proofs.state.Kept.later_price.Goals as goal

pub returns-then-is_some : goal.returns-then-is_some
returns-then-is_some c =
    let k = in_step c.args.self.now c.args.opened.now in
    let t = c.args.step.now.moment in
    let r = c.last_reference-reference.result in
    let mean = mean_of (live t (window k c.args.deals.now.deals)) in
    let seen = observed r.begun r.last t (offered k.kept c.args.step.now) mean in
    c.because.ensures
    ∙ released-first c.released_first-released.result seen (sym c.is_some.ensures ∙ c.if-is_some.true)
    ∙ ap (λ (p : Option ℕ). or_else (because First p) seen) c.released_first-released.ensures
    ∙ ap (λ (r : ReferenceState). priced_by k.opened.released r t (offered k.kept c.args.step.now) mean) c.last_reference-reference.ensures

pub returns : goal.returns
returns c =
    let k = in_step c.args.self.now c.args.opened.now in
    let t = c.args.step.now.moment in
    let r = c.last_reference-reference.result in
    let mean = mean_of (live t (window k c.args.deals.now.deals)) in
    let seen = observed r.begun r.last t (offered k.kept c.args.step.now) mean in
    c.observed.ensures.value
    ∙ ap (λ (p : Option ℕ). observed r.begun r.last t p c.awaited_mean-mean.result) c.offered.ensures
    ∙ c.awaited_mean-mean.ensures (offered k.kept c.args.step.now)
    ∙ released-none c.released_first-released.result seen (sym c.is_some.ensures ∙ c.if-is_some.false)
    ∙ ap (λ (p : Option ℕ). or_else (because First p) seen) c.released_first-released.ensures
    ∙ ap (λ (r : ReferenceState). priced_by k.opened.released r t (offered k.kept c.args.step.now) mean) c.last_reference-reference.ensures
