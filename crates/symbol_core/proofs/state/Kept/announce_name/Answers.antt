use Rattle.std.proofs.Common.{◌≡◌, Bool, true, false, [], ◌∷◌, sym, subst, ◌∙◌}
use Rattle.std.specs.Prelude.{if◌then◌else◌}
use Rattle.wire_out.specs.declared.message.Message.TheVariants as out
use Rattle.wire_out.specs.declared.message.ShortKind.TheVariants.{Carried}
use Rattle.symbol_core.specs.InStep.{in_step}
use Rattle.symbol_core.specs.Stands.{Says}
use Rattle.symbol_core.proofs.state.Kept.announce_name.Goals as goal

pub returns-then-is_carried-clause-says : goal.returns-then-is_carried-clause-says
returns-then-is_carried-clause-says c = λ opened.
    let k = c.args.self.now in
    let name = c.args.name in
    let carried : k.short.carried ≡ true = sym c.is_carried.ensures.value ∙ c.if-is_carried.true in
    subst (λ (b : Bool). Says (if b then out.Listed k.id name ∷ out.Short k.id Carried ∷ [] else out.Listed k.id name ∷ []) c.args.step.now (in_step k opened) (in_step c.announce_carried.new.self opened) c.args.out.now c.announce_carried.new.out)
    (sym carried) (c.announce_carried.ensures.says opened)

pub returns-else-is_carried-clause-says : goal.returns-else-is_carried-clause-says
returns-else-is_carried-clause-says c = λ opened.
    let k = c.args.self.now in
    let name = c.args.name in
    let carried : k.short.carried ≡ false = sym c.is_carried.ensures.value ∙ c.if-is_carried.false in
    subst (λ (b : Bool). Says (if b then out.Listed k.id name ∷ out.Short k.id Carried ∷ [] else out.Listed k.id name ∷ []) c.args.step.now (in_step k opened) (in_step c.say_listed.new.self opened) c.args.out.now c.say_listed.new.out)
    (sym carried) (c.say_listed.ensures.says opened)
