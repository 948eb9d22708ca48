use Rattle.std.proofs.Common.{ℕ, sym, ap, ◌∙◌}
use Rattle.std.specs.Prelude.{Option}
use Rattle.refprice_core.specs.Prices.{observed}
use Rattle.window_core.specs.Deals.{live, mean_of}
use Rattle.symbol_core.specs.Window.{window}
use Rattle.symbol_core.proofs.Waiting.{mean-unmoved}
use Rattle.symbol_core.specs.InStep.{in_step}
use Rattle.symbol_core.proofs.state.Kept.awaited_mean.Goals as goal

pub returns-then-not-awaits_mean : goal.returns-then-not-awaits_mean
returns-then-not-awaits_mean c = λ offered. sym (c.awaits_mean.ensures.nothing c.if-not-awaits_mean.true offered (mean_of (live c.args.t (window (in_step c.args.self.now c.args.opened.now) c.args.deals.now.deals))))

pub returns-in-Some : goal.returns-in-Some
returns-in-Some c = λ offered.
    let r = c.args.reference.now in
    mean-unmoved r.begun c.in-Some.last r.last c.args.t offered (mean_of (live c.args.t (window (in_step c.args.self.now c.args.opened.now) c.args.deals.now.deals)))
    (sym c.last.ensures.value ∙ c.in-Some.is) (sym c.mean_has_moved.ensures ∙ c.if-not-mean_has_moved.true)

pub returns-in_default : goal.returns-in_default
returns-in_default c = λ offered. ap (λ (m : Option ℕ). observed c.args.reference.now.begun c.args.reference.now.last c.args.t offered m) c.mean.ensures
