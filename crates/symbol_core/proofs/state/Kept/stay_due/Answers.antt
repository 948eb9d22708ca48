use Rattle.std.proofs.Common.{subst, arith}
use Rattle.std.specs.Prelude.{Option, IfSome}
use Rattle.symbol_core.specs.declared.due.Due.{Due}
use Rattle.symbol_core.specs.Idle.{IsStill}
use Rattle.symbol_core.proofs.state.Kept.stay_due.Goals as goal

pub returns-in-Some : goal.returns-in-Some
returns-in-Some c = λ inside.
    let still = subst (λ (o : Option Due). IfSome o (λ due. IsStill c.args.self.now due)) c.in-Some.is c.requires in
    record {
      settled = still.settled;
      waits = still.waits;
      within = c.earlier-due.ensures.first;
      prices = λ step tick le before. c.prices_from.ensures step tick le (omega (arith, before, c.earlier-due.ensures.second));
    }
