use Rattle.std.proofs.Common.{ℕ, ◌+◌, ◌-◌, ◌++◌, List, length, take, drop, refl, sym, ap, subst, ◌∙◌, append_assoc, arith}
use Rattle.std.proofs.Math.Seq.{take-add}
use Rattle.std.proofs.lemmas.List.{append-nil, take_all, take_rest, length-drop}
use Rattle.wire_in.specs.Cutting.{bodies_of}
use Rattle.screen_core.specs.Screened.{StopsAtDeal}
use Rattle.screen_core.specs.InternalScreens.{ready_for}
use Rattle.screen_core.proofs.Applying.{whenever_err}
use Rattle.screen_core.proofs.Reading.{reads_same, taken_rest}
use Rattle.screen_core.proofs.stream.Screening.read.Goals as goal

pub loop-at-init : goal.loop-at-init
loop-at-init c = record {
  within = omega arith;
  reads = λ read reads. reads_same (sym (append-nil read)) reads;
  ready = λ more ready. ready_for ((length c.args.piece.now - 0) + more) (length c.args.piece.now + more) (omega arith) ready;
  pages = refl;
}

pub advance-requires : goal.advance-requires
advance-requires c =
    let left = length c.args.piece.now - c.loop-at.at in
    record { ready = ready_for 1 (left + 0) (omega arith) (c.loop-at.invariant.ready 0 (ready_for (length c.args.piece.now + 0) (length c.args.piece.now) (omega arith) c.requires.ready)) }

pub loop-at-preserved : goal.loop-at-preserved
loop-at-preserved c =
    let piece = c.args.piece.now in
    let at = c.loop-at.at in
    let n = c.in_ok-at.field-0 in
    let left = ap length (take_rest piece at) ∙ length-drop at piece in
    record {
      within = omega (arith, c.in_ok-at.ensures.used.0, left, c.loop-at.invariant.within);
      reads = λ read reads.
          reads_same
          (ap (λ (b : List ℕ). (read ++ take at piece) ++ take n b) (take_rest piece at) ∙ append_assoc read (take at piece) (take n (drop at piece)) ∙ ap (λ (b : List ℕ). read ++ b) (sym (take-add at n piece)))
          (c.in_ok-at.ensures.reads (read ++ take at piece) (c.loop-at.invariant.reads read reads));
      ready = λ more ready.
          let rest = (length piece - at - 1) + more in
          ready_for ((length piece - (at + n)) + more) rest (omega (arith, c.in_ok-at.ensures.used.1, left))
          (c.in_ok-at.ensures.ready rest (ready_for (1 + rest) ((length piece - at) + more) (omega arith) (c.loop-at.invariant.ready more ready)));
      pages = c.advance.ensures.pages ∙ c.loop-at.invariant.pages;
    }

pub returns-in_err-at-clause-starved : goal.returns-in_err-at-clause-starved
returns-in_err-at-clause-starved c read reads =
    let piece = c.args.piece.now in
    let at = c.loop-at.at in
    whenever_err _
    (subst (λ (bytes : List ℕ). StopsAtDeal (bodies_of bytes)) (ap (λ (b : List ℕ). (read ++ take at piece) ++ b) (take_rest piece at) ∙ taken_rest read piece at)
    (c.in_err-at.ensures.starved (read ++ take at piece) (c.loop-at.invariant.reads read reads)))

pub returns-clause-reads : goal.returns-clause-reads
returns-clause-reads c read reads =
    reads_same (ap (λ (b : List ℕ). read ++ b) (take_all c.loop-at.at c.args.piece.now (omega (arith, c.loop-at.invariant.within)))) (c.loop-at.invariant.reads read reads)

pub returns-clause-ready : goal.returns-clause-ready
returns-clause-ready c more ready = ready_for more ((length c.args.piece.now - c.loop-at.at) + more) (omega arith) (c.loop-at.invariant.ready more ready)
