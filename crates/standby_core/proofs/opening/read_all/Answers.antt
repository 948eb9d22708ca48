use Rattle.std.proofs.Common.{Ok, [], ◌∷◌, ◌++◌, ap, ◌∙◌, arith}
use Rattle.host_core.proofs.Causes.{no_fault, faultless}
use Rattle.host_core.proofs.Chains.{reads_nothing, reads_on}
use Rattle.recovery_core.proofs.Recovering.{answered_on, hinders_on}
use Rattle.standby_core.proofs.opening.read_all.Goals as goal

pub batches-init : goal.batches-init
batches-init g c = record {
  in_step = c.requires;
  reads = λ disk first. first;
  keeps = reads_nothing _ (g.met.H.Host.sent_now c.args.host.now);
  none = no_fault _;
}

pub returns-in_err-more-clause-keeps : goal.returns-in_err-more-clause-keeps
returns-in_err-more-clause-keeps g c = reads_on c.batches.invariant.keeps c.next.ensures.keeps

pub returns-in_err-more-clause-hindered : goal.returns-in_err-more-clause-hindered
returns-in_err-more-clause-hindered g c =
    answered_on _ c.from_residual.result c.from_residual.ensures.1
    (hinders_on _ _ c.batches.invariant.none (λ at there disk first. let r = c.batches.invariant.reads disk first in there r.batches disk r.reads)
    (λ missing. missing) (λ short. short) c.in_err-more.ensures.hindered)

-- the end was read
pub returns-then-not-more-clause-reads : goal.returns-then-not-more-clause-reads
returns-then-not-more-clause-reads g c = λ disk first.
    let r = c.batches.invariant.reads disk first in
    record { batches = r.batches; reads = c.next.ensures.end r.batches disk r.reads (c.in_ok-more.was ∙ ap Ok c.if-not-more.true) }

pub returns-then-not-more-clause-in_step : goal.returns-then-not-more-clause-in_step
returns-then-not-more-clause-in_step g c = c.in_ok-more.ensures.in_step

pub returns-then-not-more-clause-closed : goal.returns-then-not-more-clause-closed
returns-then-not-more-clause-closed g c = c.next.ensures.closed (c.in_ok-more.was ∙ ap Ok c.if-not-more.true)

pub returns-then-not-more-clause-keeps : goal.returns-then-not-more-clause-keeps
returns-then-not-more-clause-keeps g c = reads_on c.batches.invariant.keeps c.next.ensures.keeps

pub returns-then-not-more-clause-none : goal.returns-then-not-more-clause-none
returns-then-not-more-clause-none g c = faultless c.batches.invariant.none c.in_ok-more.ensures.none

-- a further batch
pub batches-preserved : goal.batches-preserved
batches-preserved g c = record {
  in_step = c.in_ok-more.ensures.in_step;
  reads = λ disk first.
      let r = c.batches.invariant.reads disk first in
      record { batches = r.batches ++ c.next.new.self.batch ∷ []; reads = c.next.ensures.batch r.batches disk r.reads (c.in_ok-more.was ∙ ap Ok c.if-not-more.false) };
  keeps = reads_on c.batches.invariant.keeps c.next.ensures.keeps;
  none = faultless c.batches.invariant.none c.in_ok-more.ensures.none;
}

pub batches-smaller : goal.batches-smaller
batches-smaller g c = omega (arith, c.next.ensures.goes_on (c.in_ok-more.was ∙ ap Ok c.if-not-more.false), c.next.ensures.size, c.next.ensures.within)
