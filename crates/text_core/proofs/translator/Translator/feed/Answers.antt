use Rattle.std.proofs.Common.{ℕ, ◌++◌, List, length, take, drop, sym, ap, append_assoc, arith}
use Rattle.std.proofs.Math.Seq.{take-add}
use Rattle.std.proofs.lemmas.List.{append-nil, take_all, take_rest, length-drop, take-append-drop}
use Rattle.std.proofs.lemmas.Bool.Decides.{nat_tests}
use Rattle.host_core.proofs.Causes.{no_fault, faultless}
use Rattle.host_core.proofs.Chains.{sends_nothing, onward}
use Rattle.text_core.specs.declared.kind.Kind.{Kind}
use Rattle.text_core.specs.declared.task.Task.{Task}
use Rattle.text_core.specs.Streams.{text_for}
use Rattle.text_core.proofs.Answering.{reads_same, reads_rest, sends_more}
use Rattle.stream_core.proofs.Sending.{sends_none, sends_whole}
use Rattle.text_core.proofs.Units.{IsPrefix, text_more, units_more}
use Rattle.text_core.proofs.translator.Translator.feed.Goals as goal

-- the bytes of a piece that were taken come first
taken : (read piece : List ℕ) (at : ℕ) → IsPrefix (read ++ take at piece) (read ++ piece)
taken read piece at = record { more = drop at piece; whole = grind (arith, append_assoc read (take at piece) (drop at piece), take-append-drop at piece) }

-- and so does their text
taken_text : (task : Task) (kind : Kind) (read piece : List ℕ) (at : ℕ) → IsPrefix (text_for task kind (read ++ take at piece)) (text_for task kind (read ++ piece))
taken_text task kind read piece at = text_more task kind (units_more task (taken read piece at))

pub loop-at-init : goal.loop-at-init
loop-at-init g c = record {
  within = omega arith;
  few = omega arith;
  reads = λ begin read reads. reads_same (sym (append-nil read)) reads;
  moments = λ begin read reads.
      sends_more (taken_text c.args.task c.args.kind read c.args.piece.now 0)
      (sends_none (g.H.Host.outside c.args.host.now) (g.met.H.Host.sent_now c.args.host.now) _ _ (reads_same (sym (append-nil read)) reads).answers.pending_is);
  keeps = sends_nothing _;
  none = no_fault _;
}

pub loop-at-preserved : goal.loop-at-preserved
loop-at-preserved g c =
    let piece = c.args.piece.now in
    let at = c.loop-at.at in
    let n = c.in_ok-at.field-0 in
    record {
      within = omega (arith, c.in_ok-at.ensures.used.1, ap length (take_rest piece at), length-drop at piece, c.loop-at.invariant.within);
      few = omega (arith, c.loop-at.invariant.few, c.in_ok-at.ensures.few, c.in_ok-at.ensures.used.0);
      reads = λ begin read reads.
          reads_same (grind (arith, take_rest piece at, append_assoc read (take at piece) (take n (drop at piece)), take-add at n piece))
          (c.in_ok-at.ensures.run begin (read ++ take at piece) (c.loop-at.invariant.reads begin read reads)).ends;
      moments = λ begin read reads.
          sends_whole (c.loop-at.invariant.moments begin read reads)
          (sends_more (taken_text c.args.task c.args.kind read piece at) (c.advance.ensures.run begin _ (c.loop-at.invariant.reads begin read reads)).moments);
      keeps = onward c.loop-at.invariant.keeps c.advance.ensures.outside.keeps;
      none = faultless c.loop-at.invariant.none c.in_ok-at.ensures.outside.causes;
    }

pub returns-in_err-at-clause-moments : goal.returns-in_err-at-clause-moments
returns-in_err-at-clause-moments g c = λ begin read reads.
    sends_whole (c.loop-at.invariant.moments begin read reads)
    (sends_more (taken_text c.args.task c.args.kind read c.args.piece.now c.loop-at.at) (c.advance.ensures.run begin _ (c.loop-at.invariant.reads begin read reads)).moments)

-- a unit was bad, or the piece is at its end
pub returns-else-not-self-clause-reads : goal.returns-else-not-self-clause-reads
returns-else-not-self-clause-reads g c = λ begin read reads. reads_rest (taken read c.args.piece.now c.loop-at.at) c.if-not-self.false (c.loop-at.invariant.reads begin read reads)

pub returns-after-loop-at-clause-reads : goal.returns-after-loop-at-clause-reads
returns-after-loop-at-clause-reads g c = λ begin read reads.
    reads_same (ap (λ (b : List ℕ). read ++ b) (take_all c.loop-at.at c.args.piece.now (grind (arith, nat_tests, c.loop-at-test.false)))) (c.loop-at.invariant.reads begin read reads)
