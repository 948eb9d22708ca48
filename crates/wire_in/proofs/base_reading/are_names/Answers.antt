use Rattle.std.proofs.Common.{◌∙◌, [], refl, sym, subst, true≢false, arith}
use Rattle.std.specs.Prelude.{All}
use Rattle.std.proofs.lemmas.List.{take_all}
use Rattle.std.proofs.lemmas.List.Elements.{All-nil, All-more}
use Rattle.wire_in.specs.Bases.{IsListed}
use Rattle.wire_in.proofs.base_reading.are_names.Goals as goal

pub loop-name-init : goal.loop-name-init
loop-name-init c = All-nil IsListed

pub loop-name-preserved : goal.loop-name-preserved
loop-name-preserved c =
    All-more IsListed c.args.names.now c.loop-name.name-index [] c.loop-name-test.true c.loop-name.invariant (c.is_listed.ensures.0 c.if-not-is_listed.false)

pub returns-then-not-is_listed : goal.returns-then-not-is_listed
returns-then-not-is_listed c = (
  λ e. absurd (true≢false (sym e)),
  λ all. absurd (true≢false (sym (c.is_listed.ensures.1 (all c.loop-name.name-index [] c.loop-name-test.true)) ∙ c.if-not-is_listed.true)),
)

pub returns : goal.returns
returns c =
    let names = c.args.names.now in
    let all = take_all c.loop-name.name-index names (omega (arith, c.loop-name-test.false)) in
    (λ _. subst (All IsListed) all c.loop-name.invariant, λ _. refl)
