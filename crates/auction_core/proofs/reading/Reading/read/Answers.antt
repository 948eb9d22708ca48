use Rattle.std.proofs.Common.{ℕ, ◌++◌, List, length, take, drop, sym, ap, ◌∙◌, append_assoc, append-nil, arith}
use Rattle.std.proofs.Math.Seq.{take-add}
use Rattle.std.proofs.lemmas.Bool.Decides.{nat_tests}
use Rattle.std.proofs.lemmas.List.{take_all, take_rest, length-drop, take-append-drop}
use Rattle.auction_core.proofs.Readings.{reads_rest, reads_same}
use Rattle.auction_core.proofs.reading.Reading.read.Goals as goal

pub loop-at-init : goal.loop-at-init
loop-at-init c = record { within = omega arith; reads = λ read reads. reads_same (sym (append-nil read)) reads }

pub loop-at-preserved : goal.loop-at-preserved
loop-at-preserved c =
    let piece = c.args.piece.now in
    let at = c.loop-at.at in
    let n = c.in_ok-at.field-0 in
    let left = ap length (take_rest piece at) ∙ length-drop at piece in
    record {
      within = omega (arith, c.in_ok-at.ensures.used.0, left, c.loop-at.invariant.within);
      reads = λ read reads.
          reads_same
          (ap (λ (b : List ℕ). (read ++ take at piece) ++ take n b) (take_rest piece at) ∙ append_assoc read (take at piece) (take n (drop at piece)) ∙ ap (λ (b : List ℕ). read ++ b) (sym (take-add at n piece)))
          (c.in_ok-at.ensures.reads (read ++ take at piece) (c.loop-at.invariant.reads read reads));
    }

-- a line was bad, and the rest of the piece is passed over
pub returns-else-not-self : goal.returns-else-not-self
returns-else-not-self c = record {
  reads = λ read reads.
      let piece = c.args.piece.now in
      let at = c.loop-at.at in
      reads_same (append_assoc read (take at piece) (drop at piece) ∙ ap (λ (b : List ℕ). read ++ b) (take-append-drop at piece))
      (reads_rest (read ++ take at piece) (drop at piece) c.if-not-self.false (c.loop-at.invariant.reads read reads));
}

pub returns-after-loop-at : goal.returns-after-loop-at
returns-after-loop-at c = record {
  reads = λ read reads.
      reads_same (ap (λ (b : List ℕ). read ++ b) (take_all c.loop-at.at c.args.piece.now (grind (arith, nat_tests, c.loop-at-test.false)))) (c.loop-at.invariant.reads read reads);
}
