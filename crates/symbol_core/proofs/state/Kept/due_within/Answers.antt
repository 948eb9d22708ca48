use Rattle.std.proofs.Common.{sym, subst, arith}
use Rattle.symbol_core.specs.declared.due.Due.{Due}
use Rattle.symbol_core.specs.Idle.{IsIdle}
use Rattle.symbol_core.proofs.state.Kept.due_within.Goals as goal

pub returns : goal.returns
returns c = λ settled waits inside.
    subst (λ (due : Due). IsIdle c.args.self.now c.args.deals.now.deals due) (sym c.of.ensures)
    (record { settled = settled; waits = waits; within = c.earlier.ensures.first; prices = λ step tick le before. c.prices_from-prices.ensures step tick le (omega arith) })
