use Rattle.std.proofs.Common.{◌≡◌, true, false, List, [], ◌∷◌, sym, subst, ◌∙◌}
use Rattle.std.specs.Prelude.{if◌then◌else◌, ◌&&◌, not}
use Rattle.wire_out.specs.declared.message.Message.{Message}
use Rattle.wire_out.specs.declared.message.Message.TheVariants as out
use Rattle.symbol_core.specs.InStep.{in_step}
use Rattle.symbol_core.specs.Kept.{is_straddling_now, straddling}
use Rattle.symbol_core.specs.Stands.{Says}
use Rattle.symbol_core.proofs.state.Kept.straddling.Goals as goal

pub returns-then-not-self-clause-says : goal.returns-then-not-self-clause-says
returns-then-not-self-clause-says c = λ opened.
    let k = c.args.self.now in
    let now : is_straddling_now k ≡ true = sym c.is_straddling_now-is_straddling.ensures ∙ c.if-is_straddling.true in
    let was : k.straddling ≡ false = c.if-not-self.true in
    let says : straddling k c.args.step.now ≡ out.Straddle k.id true ∷ [] =
    λ i. if now i && not (was i) then out.Straddle k.id true ∷ [] else if was i && not (now i) then out.Straddle k.id false ∷ [] else [] in
    subst (λ (ms : List Message). Says ms c.args.step.now (in_step k opened) (in_step c.say_straddle.new.self opened) c.args.out.now c.say_straddle.new.out) (sym says) (c.say_straddle.ensures.says opened)

pub returns-then-not-is_straddling-clause-says : goal.returns-then-not-is_straddling-clause-says
returns-then-not-is_straddling-clause-says c = λ opened.
    let k = c.args.self.now in
    let now : is_straddling_now k ≡ false = sym c.is_straddling_now-is_straddling.ensures ∙ c.if-not-is_straddling.true in
    let was : k.straddling ≡ true = c.if-self.true in
    let says : straddling k c.args.step.now ≡ out.Straddle k.id false ∷ [] =
    λ i. if now i && not (was i) then out.Straddle k.id true ∷ [] else if was i && not (now i) then out.Straddle k.id false ∷ [] else [] in
    let said = c.say_straddle-then-not-is_straddling in
    subst (λ (ms : List Message). Says ms c.args.step.now (in_step k opened) (in_step said.new.self opened) c.args.out.now said.new.out) (sym says) (said.ensures.says opened)
