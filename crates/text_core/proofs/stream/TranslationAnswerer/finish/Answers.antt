use Rattle.std.proofs.Common.{ℕ, List, take, ap, ◌∙◌}
use Rattle.std.specs.Io.KnownBytes.{append_known}
use Rattle.stream_core.proofs.Sending.{sends_same, sends_whole}
use Rattle.text_core.proofs.Reading.{closed_text, cutter_rest, ends_so}
use Rattle.text_core.proofs.stream.TranslationAnswerer.finish.Goals as goal

pub returns-clause-exact : goal.returns-clause-exact
returns-clause-exact g c given same translates through =
    let run = rw (translates.task_is, translates.kind_is) at (c.in_ok-close_at.ensures.run given.begin (take c.args.read given.input)) in
    let status = rw translates.task_is at (c.ending-status.ensures.status (take c.args.read given.input)) in
    let answers = (run translates.reads).ends in
    rw same (
      status (cutter_rest given.task _ _ translates.reads c.close_at.ensures.cutter c.close_at.ensures.bad) ∙ ends_so translates through answers,
      c.in_ok-flush.ensures.sent given.begin _ answers.pending_is ∙ ap (λ (t : List ℕ). append_known given.begin t) (closed_text translates through),
    )

pub returns-clause-leaves : goal.returns-clause-leaves
returns-clause-leaves g c given same translates through =
    let all = rw (translates.task_is, translates.kind_is) at (c.in_ok-close_at.ensures.run given.begin (take c.args.read given.input)) in
    let run = all translates.reads in
    rw same (sends_same _ _ (closed_text translates through) (sends_whole run.moments (c.flush.ensures.moments given.begin _ run.ends.pending_is)))

pub returns-in_err-flush-clause-leaves : goal.returns-in_err-flush-clause-leaves
returns-in_err-flush-clause-leaves g c given same translates through =
    let all = rw (translates.task_is, translates.kind_is) at (c.in_ok-close_at.ensures.run given.begin (take c.args.read given.input)) in
    let run = all translates.reads in
    rw same (sends_same _ _ (closed_text translates through) (sends_whole run.moments (c.flush.ensures.moments given.begin _ run.ends.pending_is)))

pub returns-in_err-close_at-clause-leaves : goal.returns-in_err-close_at-clause-leaves
returns-in_err-close_at-clause-leaves g c given same translates through =
    let all = rw (translates.task_is, translates.kind_is) at (c.close_at.ensures.run given.begin (take c.args.read given.input)) in
    rw same (sends_same _ _ (closed_text translates through) (all translates.reads).moments)
