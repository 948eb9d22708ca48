use Rattle.stream_core.proofs.Sending.{sends_none}
use Rattle.text_core.proofs.Answering.{answered_good, answered_bad}
use Rattle.text_core.proofs.writer.Writer.answer.Goals as goal

pub returns-then-not-write_output-clause-answers : goal.returns-then-not-write_output-clause-answers
returns-then-not-write_output-clause-answers g c = λ begin units answers. answered_bad answers c.requires.open c.args.unit.now (rw c.if-not-write_output.true at c.write_output.ensures)

pub returns-then-not-write_output-clause-moments : goal.returns-then-not-write_output-clause-moments
returns-then-not-write_output-clause-moments g c = λ begin units answers. sends_none (g.H.Host.outside c.args.host.now) (g.met.H.Host.sent_now c.args.host.now) _ _ answers.pending_is

pub returns-in_err-append_bytes-clause-moments : goal.returns-in_err-append_bytes-clause-moments
returns-in_err-append_bytes-clause-moments g c = λ begin units answers. c.append_bytes.ensures.moments begin _ answers.pending_is

pub returns-clause-answers : goal.returns-clause-answers
returns-clause-answers g c = λ begin units answers.
    answered_good answers c.requires.open c.args.unit.now (rw (c.if-not-write_output.false, ← c.as_slice.ensures.value) at c.write_output.ensures)
    (c.in_ok-append_bytes.ensures.pending begin _ answers.pending_is)

pub returns-clause-moments : goal.returns-clause-moments
returns-clause-moments g c = λ begin units answers. c.append_bytes.ensures.moments begin _ answers.pending_is
