use Rattle.std.proofs.Common.{ℕ, List, ◌++◌, length, rules, sym, ap, ◌∙◌, arith, append_assoc}
use Rattle.std.proofs.lemmas.List.{take_all}
use Rattle.stream_core.proofs.Sending.{sends_none}
use Rattle.text_core.proofs.Answering.{reads_more, reads_same}
use Rattle.text_core.proofs.translator.Translator.take_line.Goals as goal

pub returns-in_default-clause-run : goal.returns-in_default-clause-run
returns-in_default-clause-run g c = λ begin read reads. record {
  ends = reads_same (ap (λ (b : List ℕ). read ++ b) (sym (take_all (length c.args.piece.now) c.args.piece.now (omega arith))))
      (reads_more read c.args.self.now.line c.args.piece.now (c.line_len.ensures.none c.in_default.is) (reads.begun c.requires.open) c.keep.ensures reads.answers);
  moments = sends_none (g.H.Host.outside c.args.host.now) (g.met.H.Host.sent_now c.args.host.now) _ _ reads.answers.pending_is;
}

pub returns-in_err-end_line-clause-run : goal.returns-in_err-end_line-clause-run
returns-in_err-end_line-clause-run g c = λ begin read reads. record { ends = search rules; moments = (c.end_line.ensures.run begin read reads).moments }

pub returns-clause-run : goal.returns-clause-run
returns-clause-run g c = λ begin read reads.
    let run = c.in_ok-end_line.ensures.run begin read reads in
    record { ends = reads_same (append_assoc read _ _ ∙ ap (λ (b : List ℕ). read ++ b) (sym c.in-Some.ensures.ended)) run.ends; moments = run.moments }
