use Rattle.std.proofs.Common.{◌+◌, sym, subst, ◌∙◌, arith}
use Rattle.std.specs.Prelude.{OnOk, OnErr, Result}
use Rattle.wire_in.specs.declared.record.Record.{Record}
use Rattle.wire_in.specs.declared.record.Refusal.{Refusal}
use Rattle.rulebook.specs.Sent.{admitted, with_record}
use Rattle.screen_core.specs.Screened.{IsDeal, capacity}
use Rattle.screen_core.specs.InternalScreens.{Keeps, ready_for}
use Rattle.screen_core.proofs.screen.Screen.take.Goals as goal

pub returns-in-Ok : goal.returns-in-Ok
returns-in-Ok c =
    let is = sym c.in-Ok.is ∙ c.decode.ensures.exact in
    record {
      keeps = λ held keeps. subst (λ (r : Result Record Refusal). OnOk c.take_record.result (Keeps (with_record held (admitted capacity held r)) c.take_record.new.self)) is (c.take_record.ensures.keeps held keeps);
      ready = c.take_record.ensures.ready;
      starved = λ held keeps. subst (λ (r : Result Record Refusal). OnErr c.take_record.result (IsDeal (admitted capacity held r))) is (c.take_record.ensures.starved held keeps);
    }

pub returns-in-Err : goal.returns-in-Err
returns-in-Err c =
    let is = sym c.in-Err.is ∙ c.decode.ensures.exact in
    record {
      keeps = λ held keeps. subst (λ (r : Result Record Refusal). Keeps (with_record held (admitted capacity held r)) c.args.self.now) is keeps;
      ready = λ more ready. ready_for more (1 + more) (omega arith) ready;
      starved = λ held keeps. tt;
    }
