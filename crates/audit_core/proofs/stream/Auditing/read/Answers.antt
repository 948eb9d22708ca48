use Rattle.std.proofs.Common.{◌≡◌, ℕ, ◌++◌, List, length, take, drop, sym, ap, ◌∙◌, append_assoc, arith}
use Rattle.std.specs.Prelude.{not}
use Rattle.std.proofs.Math.Seq.{take-add}
use Rattle.std.proofs.lemmas.List.{take_rest, length-drop, take-append-drop}
use Rattle.audit_core.proofs.Found.{reads_same, reads_rest}
use Rattle.audit_core.proofs.stream.Auditing.read.Goals as goal

pub loop-at-preserved : goal.loop-at-preserved
loop-at-preserved c =
    let piece = c.args.piece.now in
    let at = c.loop-at.at in
    let n = c.in_ok-at.field-0 in
    let left = ap length (take_rest piece at) ∙ length-drop at piece in
    record {
      within = omega (arith, c.in_ok-at.ensures.used.0, left, c.loop-at.invariant.within);
      few = omega (arith, c.loop-at.invariant.few, c.advance.ensures.few, c.in_ok-at.ensures.used.1);
      clean = c.in_ok-at.ensures.clean;
      reads = λ read reads.
          reads_same
          (ap (λ (b : List ℕ). (read ++ take at piece) ++ take n b) (take_rest piece at) ∙ append_assoc read (take at piece) (take n (drop at piece)) ∙ ap (λ (b : List ℕ). read ++ b) (sym (take-add at n piece)))
          (c.in_ok-at.ensures.reads (read ++ take at piece) (c.loop-at.invariant.reads read reads));
    }

-- something was wrong, and the rest of the piece is passed over
pub returns-else-is_none-clause-reads : goal.returns-else-is_none-clause-reads
returns-else-is_none-clause-reads c read reads =
    let piece = c.args.piece.now in
    let at = c.loop-at.at in
    reads_same (append_assoc read (take at piece) (drop at piece) ∙ ap (λ (b : List ℕ). read ++ b) (take-append-drop at piece))
    (reads_rest (read ++ take at piece) (drop at piece) (ap not (c.is_none.ensures ∙ ap not c.if-is_none.false)) (c.loop-at.invariant.reads read reads))
