use Rattle.std.proofs.Common.{sym, ◌∙◌}
use Rattle.std.proofs.lemmas.Bool.{and_parts}
use Rattle.stream_core.proofs.Pending.{on_ok}
use Rattle.stream_core.proofs.Sending.{sends_none}
use Rattle.text_core.proofs.Answering.{sends_more}
use Rattle.text_core.proofs.Reading.{closed_more, closed_none}
use Rattle.text_core.proofs.Units.{text_more}
use Rattle.text_core.proofs.stream.close_at.Goals as goal

pub returns-then-closes-clause-run : goal.returns-then-closes-clause-run
returns-then-closes-clause-run g c = λ begin read reads. record {
  ends = on_ok c.close.result (c.close.ensures.answers begin read reads) (λ answers. rw (and_parts c.args.at_end _ (sym c.closes.ensures ∙ c.if-closes.true)).0 answers);
  moments = sends_more (text_more c.args.task c.args.kind (closed_more c.args.task c.args.at_end read)) (c.close.ensures.moments begin read reads);
}

pub returns-clause-run : goal.returns-clause-run
returns-clause-run g c = λ begin read reads.
    let answers = closed_none c.args.at_end (sym c.closes.ensures ∙ c.if-closes.false) reads in
    record { ends = answers; moments = sends_none (g.H.Host.outside c.args.host.now) (g.met.H.Host.sent_now c.args.host.now) _ _ answers.pending_is }
