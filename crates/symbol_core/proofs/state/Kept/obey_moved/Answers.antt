use Rattle.std.proofs.Common.{◌≡◌, true, ap, ◌∙◌}
use Rattle.pause_core.specs.Phases.{is_trading}
use Rattle.symbol_core.specs.declared.state.Kept.{Kept}
use Rattle.symbol_core.specs.InStep.{in_step}
use Rattle.symbol_core.proofs.Chains.{last, next, then_all, with_deals}
use Rattle.symbol_core.proofs.Quiet.{obeys-early}
use Rattle.symbol_core.proofs.Settled.{settles}
use Rattle.symbol_core.proofs.state.Kept.obey_moved.Goals as goal

pub publish_moved-requires-clause-trading : goal.publish_moved-requires-clause-trading
publish_moved-requires-clause-trading c = c.requires.awaits.trading

pub enter_limit-requires-clause-goes_on : goal.enter_limit-requires-clause-goes_on
enter_limit-requires-clause-goes_on c = c.publish_moved.ensures.obeys.goes_on

pub straddle-requires-clause-goes_on : goal.straddle-requires-clause-goes_on
straddle-requires-clause-goes_on c = c.enter_limit.ensures.obeys.goes_on

pub restrict-requires-clause-goes_on : goal.restrict-requires-clause-goes_on
restrict-requires-clause-goes_on c = (c.straddle.ensures.obeys c.enter_limit.new.opened).goes_on

pub returns : goal.returns
returns c =
    let deals = c.args.deals.now.deals in
    record {
      obeys = then_all (obeys-early (in_step c.args.self.now c.args.opened.now) deals c.args.step.now c.args.out.now c.requires.awaits)
          (next c.publish_moved.ensures.obeys (next (with_deals deals c.enter_limit.ensures.obeys) (next (with_deals deals (c.straddle.ensures.obeys c.enter_limit.new.opened)) (next (with_deals deals c.restrict.ensures.obeys) (last deals c.args.step.now (in_step c.restrict.new.self c.enter_limit.new.opened) c.restrict.new.out)))));
      settled =
          let trading : is_trading c.args.self.now.phase ≡ true = c.requires.awaits.trading in
          let same_phase = ap (λ (l : Kept). is_trading l.phase) c.publish_moved.ensures.rest in
          settles c.args.self.now c.publish_moved.new.self c.enter_limit.new.self c.restrict.new.self c.args.step.now.stopped c.requires.awaits.settled trading c.publish_moved.ensures.rest
          (c.enter_limit.ensures.enters (same_phase ∙ trading)) (c.restrict.ensures.same ∙ c.straddle.ensures.straddles);
      bands = c.restrict.ensures.bands ∙ c.straddle.ensures.bands ∙ c.enter_limit.ensures.bands c.publish_moved.ensures.bands;
    }
