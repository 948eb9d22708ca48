use Rattle.symbol_core.proofs.state.Kept.take_trial.Goals as goal

pub returns-in-Extend-clause-says : goal.returns-in-Extend-clause-says
returns-in-Extend-clause-says c = rw c.in-Extend.is (c.say_round.ensures.says c.args.opened.now)
