use Rattle.std.proofs.Common.{ℕ, List, ◌++◌, length, sym, ap, ◌∙◌, arith, append_assoc}
use Rattle.std.proofs.lemmas.List.{take_all}
use Rattle.auction_core.proofs.Readings.{reads_more, reads_same}
use Rattle.auction_core.proofs.reading.Reading.advance.Goals as goal

pub returns-in_default-clause-reads : goal.returns-in_default-clause-reads
returns-in_default-clause-reads c read reads =
    reads_same (ap (λ (b : List ℕ). read ++ b) (sym (take_all (length c.args.piece.now) c.args.piece.now (omega arith))))
    (reads_more _ read c.args.self.now.line c.args.piece.now (c.line_len.ensures.none c.in_default.is) (reads.begun c.requires.going) c.keep.ensures reads.holds)

pub returns-clause-reads : goal.returns-clause-reads
returns-clause-reads c read reads =
    reads_same (append_assoc read _ _ ∙ ap (λ (b : List ℕ). read ++ b) (sym c.in-Some.ensures.ended)) (c.in_ok-end_line.ensures.reads read reads)
