use Rattle.std.proofs.Common.{◌≡◌, List, subst}
use Rattle.std.specs.Prelude.{OnErr, OnOk}
use Rattle.wire_out.specs.declared.message.Message.{Message}
use Rattle.symbol_core.specs.Evaluates.{Evaluates}
use Rattle.symbol_core.proofs.symbol.Symbol.evaluate.Goals as goal

pub returns-clause-ok : goal.returns-clause-ok
returns-clause-ok c =
    let said = c.evaluate_behind in
    subst (λ (before : List Message). OnOk said.result (Evaluates c.args.market.now c.args.x.now c.args.self.now said.new.self before said.new.out)) c.clear.ensures.none said.ensures.ok

pub returns-clause-err : goal.returns-clause-err
returns-clause-err c =
    let said = c.evaluate_behind in
    subst (λ (before : List Message). OnErr said.result ((said.new.self ≡ c.args.self.now) × (said.new.out ≡ before))) c.clear.ensures.none said.ensures.err
