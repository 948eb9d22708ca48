use Rattle.std.proofs.Common.{[], ◌∷◌, sym, subst}
use Rattle.rulebook.specs.declared.event.Event.TheVariants.{Accepted}
use Rattle.symbol_core.specs.Rests.{Rests, SymbolState}
use Rattle.symbol_core.specs.Taken.{renewed}
use Rattle.symbol_core.proofs.Resting.{rests-renewed, rests-with}
use Rattle.symbol_core.proofs.symbol.Symbol.begin_day.Goals as goal

pub returns-clause-begins : goal.returns-clause-begins
returns-clause-begins c = λ mine h r.
    let held : SymbolState = record { kept = c.self.inside.kept; deals = c.self.inside.deals.deals; spare = c.self.inside.deals.spare } in
    rw (c.renewed-renewed.ensures, c.next_day.ensures.value, c.restart.ensures.deals)
    (rests-with mine (record { kept = renewed held.kept.id held.kept.short.triggered; deals = []; spare = 0 }) c.restart.new.self.spare (Accepted c.args.x.now ∷ h)
    (rests-renewed mine held c.args.x.now h c.requires (subst (λ (held : SymbolState). Rests mine held h) (sym c.self.view_is) r)))
