use Rattle.std.proofs.Common.{◌∙◌, sym}
use Rattle.stream_core.proofs.Pending.{on_ok}
use Rattle.stream_core.proofs.Sending.{sends_none}
use Rattle.text_core.specs.declared.task.Task.TheVariants.{Pack}
use Rattle.text_core.specs.Streams.{units_of, rest_of}
use Rattle.text_core.proofs.Answering.{last_line}
use Rattle.text_core.proofs.translator.Translator.close_line.Goals as goal

pub returns-then-is_empty-clause-moments : goal.returns-then-is_empty-clause-moments
returns-then-is_empty-clause-moments g c = λ begin read reads. sends_none (g.H.Host.outside c.args.host.now) (g.met.H.Host.sent_now c.args.host.now) _ _ reads.answers.pending_is

pub returns-clause-answers : goal.returns-clause-answers
returns-clause-answers g c = λ begin read reads.
    on_ok c.answer.result (c.answer.ensures.answers begin _ reads.answers) (λ answers.
    last_line (units_of Pack read) c.args.self.now.line (rest_of Pack read) (reads.begun c.requires.open) (sym c.is_empty.ensures ∙ c.if-is_empty.false) (rw c.as_slice.ensures.value at answers))

pub returns-clause-moments : goal.returns-clause-moments
returns-clause-moments g c = λ begin read reads. c.answer.ensures.moments begin _ reads.answers
