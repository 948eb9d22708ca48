use Rattle.std.proofs.Common.{sym, subst}
use Rattle.std.specs.Prelude.{IfSome}
use Rattle.words_core.specs.Commands.{IsInRange}
use Rattle.words_core.proofs.Ranges.{command_within}
use Rattle.words_core.proofs.rows.command_from.Goals as goal

pub returns-clause-range : goal.returns-clause-range
returns-clause-range c =
    subst (λ made. IfSome made IsInRange) (sym c.command.ensures) (command_within c.args.verb c.in_ok-given.given c.in_ok-given.ensures.range)
