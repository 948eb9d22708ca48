use Rattle.std.proofs.Common.{refl}
use Rattle.standby_core.specs.Running.{given_of}
use Rattle.standby_core.proofs.Taken.{begun_with, has_taken}
use Rattle.standby_core.proofs.keeping.take_input.Goals as goal

pub returns : goal.returns
returns g c =
    let run = c.answer_input.ensures in
    let none = c.requires.outbox in
    has_taken c.answer_input.new.answerer c.answer_input.result c.answer_of.result c.answer_of.ensures run.end run.starves run.causes
    (λ begin input begun. run.leaves (given_of begin input c.args.bytes) refl (begun_with _ none begun))
    (λ begin input begun. record {
      exact = run.exact (given_of begin input c.args.bytes) refl (begun_with _ none begun);
      taken = run.taken (given_of begin input c.args.bytes) refl (begun_with _ none begun);
      unread = run.unread (given_of begin input c.args.bytes) refl (begun_with _ none begun);
      prompt = run.prompt (given_of begin input c.args.bytes) refl (begun_with _ none begun);
    })
    run.does.extends run.bytes run.continues
