use Rattle.std.proofs.Common.{subst}
use Rattle.symbol_core.specs.Rests.{SymbolState}
use Rattle.symbol_core.proofs.Unmoved.{IsIdling, IsPassed, idling, passed}
use Rattle.symbol_core.proofs.symbol.Symbol.due.Goals as goal

pub returns : goal.returns
returns c =
    let due = c.self.inside.due in
    let held : SymbolState = record { kept = c.self.inside.kept; deals = c.self.inside.deals.deals; spare = c.self.inside.deals.spare } in
    record {
      idles = subst (IsIdling due) c.self.view_is (idling due held c.self.invariant);
      nothing = subst (IsPassed due) c.self.view_is (passed due held c.self.invariant);
    }
