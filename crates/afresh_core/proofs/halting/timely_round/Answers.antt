use Rattle.std.proofs.Common.{sym, ◌∙◌, arith}
use Rattle.afresh_core.proofs.Timely.{timely_round}
use Rattle.afresh_core.proofs.halting.timely_round.Goals as goal

pub returns-clause-few : goal.returns-clause-few
returns-clause-few c =
    omega (arith, timely_round c.args.c.now.symbol c.args.c.now.history.now c.in_ok-round.round c.requires (sym c.last_round.ensures ∙ c.in_ok-round.was))
