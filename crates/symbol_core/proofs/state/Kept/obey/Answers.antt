use Rattle.std.proofs.Common.{sym, ◌∙◌}
use Rattle.symbol_core.specs.Stands.{later_rules}
use Rattle.symbol_core.proofs.Chains.{closed, last, next, then_all, with_deals}
use Rattle.symbol_core.specs.InStep.{in_step}
use Rattle.symbol_core.proofs.Banding.{bands-done}
use Rattle.symbol_core.proofs.state.Kept.obey.Goals as goal

pub pause-requires-clause-goes_on : goal.pause-requires-clause-goes_on
pause-requires-clause-goes_on c = sym c.is_done.ensures ∙ c.if-is_done.false

pub reopen-requires-clause-goes_on : goal.reopen-requires-clause-goes_on
reopen-requires-clause-goes_on c = c.pause.ensures.obeys.goes_on

pub leave_limit-requires-clause-goes_on : goal.leave_limit-requires-clause-goes_on
leave_limit-requires-clause-goes_on c = c.reopen.ensures.obeys.goes_on

pub publish_band-requires-clause-goes_on : goal.publish_band-requires-clause-goes_on
publish_band-requires-clause-goes_on c = c.leave_limit.ensures.obeys.goes_on

pub enter_limit-requires-clause-goes_on : goal.enter_limit-requires-clause-goes_on
enter_limit-requires-clause-goes_on c = c.publish_band.ensures.obeys.goes_on

pub straddle-requires-clause-goes_on : goal.straddle-requires-clause-goes_on
straddle-requires-clause-goes_on c = c.enter_limit.ensures.obeys.goes_on

pub restrict-requires-clause-goes_on : goal.restrict-requires-clause-goes_on
restrict-requires-clause-goes_on c = (c.straddle.ensures.obeys c.enter_limit.new.opened).goes_on

pub returns-then-is_done : goal.returns-then-is_done
returns-then-is_done c =
    let deals = c.args.deals.now.deals in
    record {
      obeys = then_all (c.turn.ensures.obeys deals) (closed deals later_rules c.args.step.now (in_step c.turn.new.self c.turn.new.opened) c.turn.new.out (sym c.is_done.ensures ∙ c.if-is_done.true));
      bands = bands-done c.turn.new.self c.args.step.now (sym c.is_done.ensures ∙ c.if-is_done.true);
    }

pub returns : goal.returns
returns c =
    let deals = c.args.deals.now.deals in
    record {
      obeys = then_all (c.turn.ensures.obeys deals) (next (with_deals deals c.pause.ensures.obeys) (next (with_deals deals c.reopen.ensures.obeys) (next (with_deals deals c.leave_limit.ensures.obeys) (next c.publish_band.ensures.obeys (next (with_deals deals c.enter_limit.ensures.obeys) (next (with_deals deals (c.straddle.ensures.obeys c.enter_limit.new.opened)) (next (with_deals deals c.restrict.ensures.obeys) (last deals c.args.step.now (in_step c.restrict.new.self c.enter_limit.new.opened) c.restrict.new.out))))))));
      bands = c.restrict.ensures.bands ∙ c.straddle.ensures.bands ∙ c.enter_limit.ensures.bands c.publish_band.ensures.bands;
    }
