use Rattle.std.proofs.Common.{◌+◌, sym, subst, ◌∙◌, arith}
use Rattle.std.specs.Prelude.{OnOk, OnErr, Result}
use Rattle.wire_in.specs.declared.record.Record.{Record}
use Rattle.wire_in.specs.declared.record.Refusal.{Refusal}
use Rattle.rulebook.specs.Sent.{with_record}
use Rattle.screen_core.specs.Screened.{IsDeal}
use Rattle.screen_core.specs.InternalScreens.{Keeps, ready_for}
use Rattle.screen_core.proofs.Applying.{admitted_by}
use Rattle.screen_core.proofs.screen.Screen.take_record.Goals as goal

pub returns-in-Some : goal.returns-in-Some
returns-in-Some c = record {
  keeps = λ held keeps. subst (λ (r : Result Record Refusal). Keeps (with_record held r) c.args.self.now) (sym (admitted_by keeps c.args.x.now _ (sym c.in-Some.is ∙ c.verdict.ensures.kept))) keeps;
  ready = λ more ready. ready_for more (1 + more) (omega arith) ready;
  starved = λ held keeps. tt;
}

pub apply-requires : goal.apply-requires
apply-requires c = record { admissible = sym c.verdict.ensures.kept ∙ c.in-None.is; ready = c.requires.ready }

pub returns-in-None : goal.returns-in-None
returns-in-None c = record {
  keeps = λ held keeps. subst (λ (r : Result Record Refusal). OnOk c.apply.result (Keeps (with_record held r) c.apply.new.self)) (sym (admitted_by keeps c.args.x.now _ (sym c.in-None.is ∙ c.verdict.ensures.kept))) (c.apply.ensures.keeps held keeps);
  ready = c.apply.ensures.ready;
  starved = λ held keeps. subst (λ (r : Result Record Refusal). OnErr c.apply.result (IsDeal r)) (sym (admitted_by keeps c.args.x.now _ (sym c.in-None.is ∙ c.verdict.ensures.kept))) c.apply.ensures.starved;
}
