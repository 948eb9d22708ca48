use Rattle.std.proofs.Common.{◌≡◌, Bool, true, sym, ap, subst, ◌∙◌}
use Rattle.std.specs.Prelude.{◌&&◌, not, is_some}
use Rattle.symbol_core.specs.Evaluates.{Evaluates}
use Rattle.symbol_core.specs.Rests.{SymbolState}
use Rattle.symbol_core.proofs.Evaluated.{away, evaluated-away}
use Rattle.symbol_core.proofs.symbol.Symbol.take_time.Goals as goal

pub returns-then-not-is_listed-clause-ok : goal.returns-then-not-is_listed-clause-ok
returns-then-not-is_listed-clause-ok c =
    let is_away : away c.args.x.now c.args.self.now.kept.terms ≡ true =
    ap (λ (b : Bool). b && not (is_some c.args.self.now.kept.terms)) c.requires.kind ∙ ap not (sym c.is_listed.ensures.value ∙ c.if-not-is_listed.true) in
    subst (λ (held : SymbolState). Evaluates c.args.market.now c.args.x.now c.args.self.now held c.args.out.now c.args.out.now) (sym c.stay_away.ensures)
    (evaluated-away c.args.market.now c.args.x.now c.args.self.now c.args.out.now is_away)

pub returns-then-pass-clause-ok : goal.returns-then-pass-clause-ok
returns-then-pass-clause-ok c = c.pass.ensures.nothing c.if-pass.true c.args.out.now
