use Rattle.std.proofs.Common.{[], ◌∷◌, refl, rules, sym, ◌∙◌}
use Rattle.std.proofs.lemmas.List.{append-nil}
use Rattle.stream_core.proofs.Sending.{sends_none}
use Rattle.text_core.proofs.Answering.{frame_begun, reads_frames, whole_on}
use Rattle.text_core.proofs.Units.{not_true, not_false}
use Rattle.text_core.proofs.translator.Translator.take_frame.Goals as goal

pub returns-in_err-answer-clause-run : goal.returns-in_err-answer-clause-run
returns-in_err-answer-clause-run g c = λ begin read reads. record { ends = search rules; moments = c.answer.ensures.moments begin _ reads.answers }

pub returns-in-Some-clause-run : goal.returns-in-Some-clause-run
returns-in-Some-clause-run g c = λ begin read reads.
    let between = c.in-Some.ensures.between refl in
    let on = whole_on read _ c.in-Some.body.now (sym (frame_begun reads c.requires.open) ∙ between) c.in-Some.ensures.prefix in
    record {
      ends = reads_frames read _ (c.in-Some.body.now ∷ []) on.0 (between ∙ sym on.1) (c.in_ok-answer.ensures.answers begin _ reads.answers);
      moments = c.answer.ensures.moments begin _ reads.answers;
    }

pub returns-then-not-cut-clause-run : goal.returns-then-not-cut-clause-run
returns-then-not-cut-clause-run g c = λ begin read reads.
    let on = c.take-cut.ensures.goes_on read (frame_begun reads c.requires.open) in
    record {
      ends = reads_frames read _ [] (rw (sym c.take-cut.ensures.whole ∙ not_true _ c.if-not-cut.true) at on.bodies) on.rest (rw append-nil reads.answers);
      moments = sends_none (g.H.Host.outside c.args.host.now) (g.met.H.Host.sent_now c.args.host.now) _ _ reads.answers.pending_is;
    }

pub returns-in_err-answer-2-clause-run : goal.returns-in_err-answer-2-clause-run
returns-in_err-answer-2-clause-run g c = λ begin read reads. record { ends = search rules; moments = c.answer-2.ensures.moments begin _ reads.answers }

pub returns-clause-run : goal.returns-clause-run
returns-clause-run g c = λ begin read reads.
    let on = c.take-cut.ensures.goes_on read (frame_begun reads c.requires.open) in
    record {
      ends = reads_frames read _ (c.body.result.now ∷ []) (rw (sym c.take-cut.ensures.whole ∙ not_false _ c.if-not-cut.false, ← c.body.ensures.frame) at on.bodies) on.rest
          (c.in_ok-answer-2.ensures.answers begin _ reads.answers);
      moments = c.answer-2.ensures.moments begin _ reads.answers;
    }
