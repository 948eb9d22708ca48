use Rattle.symbol_core.proofs.Turning.{first-unpaused, second-unpaused, turns-obey}
use Rattle.symbol_core.specs.InStep.{in_step}
use Rattle.symbol_core.proofs.state.Kept.turn.Goals as goal

pub returns-clause-obeys : goal.returns-clause-obeys
returns-clause-obeys c =
    turns-obey (in_step c.args.self.now c.args.opened.now) (in_step c.turn_to.new.self c.turn_to.new.opened) (in_step c.turn_to-2.new.self c.turn_to-2.new.opened) c.args.step.now _ _ c.args.out.now c.turn_to.new.out c.turn_to-2.new.out
    c.brakes.ensures c.turn-turned.ensures.all c.turn_to.ensures.says c.turn_to-2.ensures.says

pub turn_to-requires-clause-unpaused : goal.turn_to-requires-clause-unpaused
turn_to-requires-clause-unpaused c = first-unpaused c.args.self.now.phase _ c.turn-turned.result c.turn-turned.ensures.all

pub turn_to-requires-2-clause-unpaused : goal.turn_to-requires-2-clause-unpaused
turn_to-requires-2-clause-unpaused c = second-unpaused c.args.self.now.phase _ c.turn-turned.result c.turn-turned.ensures.all
