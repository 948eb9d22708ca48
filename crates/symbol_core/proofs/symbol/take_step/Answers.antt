use Rattle.std.proofs.Common.{refl, sym, ap, subst, ◌∙◌}
use Rattle.symbol_core.proofs.Live.{live-taken}
use Rattle.std.specs.Prelude.{IfSome}
use Rattle.symbol_core.specs.declared.state.Kept.{Kept}
use Rattle.symbol_core.specs.Idle.{IsSettled, WaitsAt}
use Rattle.symbol_core.specs.InStep.{InStep, in_step}
use Rattle.symbol_core.proofs.Quiet.{waits-left, waits-taken}
use Rattle.symbol_core.proofs.Steps.{step-evaluates}
use Rattle.symbol_core.proofs.symbol.take_step.Goals as goal

pub speak-is_quiet-requires-clause-waits : goal.speak-is_quiet-requires-clause-waits
speak-is_quiet-requires-clause-waits c =
    subst (λ (k : InStep). IfSome c.args.waits (λ until. WaitsAt k.kept c.args.step.now until)) (sym c.take-opened.ensures) (waits-taken c.args.k.now c.args.step.now c.args.waits c.requires.waits)

pub due_after-requires-clause-quiet : goal.due_after-requires-clause-quiet
due_after-requires-clause-quiet c = λ quiet.
    let same = c.speak-is_quiet.ensures.quiet quiet in
    subst (λ (k : Kept). IsSettled k c.args.step.now.stopped) (sym same.0) same.1

pub due_after-requires-clause-waits : goal.due_after-requires-clause-waits
due_after-requires-clause-waits c = λ quiet.
    let same = c.speak-is_quiet.ensures.quiet quiet in
    let kept = same.0 ∙ ap (λ (k : InStep). k.kept) c.take-opened.ensures in
    waits-left c.speak-is_quiet.new.k c.args.step.now c.args.waits
    (subst (λ (k : Kept). IfSome c.args.waits (λ until. WaitsAt k c.args.step.now until)) (sym kept) (waits-taken c.args.k.now c.args.step.now c.args.waits c.requires.waits))

pub returns : goal.returns
returns c =
    let spoken = c.speak-is_quiet.ensures.speaks in
    let took = in_step c.take-opened.new.self c.take-opened.result in
    let mid = in_step c.speak-is_quiet.new.k c.speak-is_quiet.new.opened in
    record {
      steps = step-evaluates c.args.step.now c.args.k.now spoken.said mid took c.speak-is_quiet.new.k c.args.deals.now.deals c.drop_cancelled.new.deals.deals c.drop_old.new.deals.deals c.drop_old.new.deals.deals c.keep_deals.new.deals.deals c.args.out.now spoken.between c.speak-is_quiet.new.out
          c.drop_cancelled.ensures.items c.drop_old.ensures.deals refl c.take-opened.ensures spoken.announces spoken.obeys c.keep_deals.ensures.same refl;
      recent = λ now. c.keep_deals.ensures.recent (live-taken c.args.step.now c.args.k.now took c.take-opened.ensures now);
      due = c.due_after.ensures;
    }
