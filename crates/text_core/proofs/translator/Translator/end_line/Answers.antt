use Rattle.std.proofs.Common.{rules, sym, ◌∙◌}
use Rattle.stream_core.proofs.Pending.{on_ok}
use Rattle.text_core.proofs.Answering.{reads_line, empty_is}
use Rattle.text_core.proofs.Units.{cut_output}
use Rattle.text_core.proofs.translator.Translator.end_line.Goals as goal

pub returns-then-is_empty-clause-run : goal.returns-then-is_empty-clause-run
returns-then-is_empty-clause-run g c = λ begin read reads.
    let empty = empty_is c.args.self.now.line (sym c.is_empty.ensures ∙ c.if-is_empty.true) in
    record {
      ends = on_ok c.answer.result (c.answer.ensures.answers begin _ reads.answers) (λ answers.
          reads_line read c.args.self.now.line c.args.last.now c.args.last.now c.requires.line (reads.begun c.requires.open) (rw empty (cut_output c.args.kind c.args.last.now)) empty answers);
      moments = c.answer.ensures.moments begin _ reads.answers;
    }

pub returns-in_err-answer-clause-run : goal.returns-in_err-answer-clause-run
returns-in_err-answer-clause-run g c = λ begin read reads. record { ends = search rules; moments = c.answer-2.ensures.moments begin _ reads.answers }

pub returns-clause-run : goal.returns-clause-run
returns-clause-run g c = λ begin read reads. record {
  ends = reads_line read c.args.self.now.line c.args.last.now c.as_slice.result.now c.requires.line (reads.begun c.requires.open) (rw (c.as_slice.ensures.value, c.keep.ensures))
      c.clear.ensures (c.in_ok-answer.ensures.answers begin _ reads.answers);
  moments = c.answer-2.ensures.moments begin _ reads.answers;
}
