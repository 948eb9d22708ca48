use Rattle.std.proofs.Common.{ℕ, List, Ok, Err, length, refl, sym, ap, subst, ◌∙◌, arith}
use Rattle.std.specs.Prelude.{IsTrue, Option}
use Rattle.host_core.proofs.Causes.{no_fault, faultless}
use Rattle.host_core.specs.Frames.{OnlyReadsDisk}
use Rattle.host_core.proofs.Chains.{reads_nothing, reads_on}
use Rattle.wire_in.specs.declared.base.Base.{Base}
use Rattle.wire_in.specs.declared.record.Record.{Record}
use Rattle.journal_core.specs.Scan.{ScanState}
use Rattle.evaluator_core.specs.Evaluating.{workers_of}
use Rattle.recovery_core.specs.Waiting.{WaitingState}
use Rattle.recovery_core.specs.Recoveries.{StarvesAgain, IsReading}
use Rattle.recovery_core.proofs.Recovering.{rebased, gathers_first, gathered, sends_nothing_read, read_on, again_then, only_read, only_sent, recovers_on, answered_on, fault_hinders, fault_unsent, hinders_on, told_unsent}
use Rattle.recovery_core.proofs.recovery.Recovery.read.Goals as goal

pub batches-init : goal.batches-init
batches-init g c = record {
  reading = subst (λ (w : WaitingState). IsReading c.args.self.now.scan c.args.self.now.engine (length w.records) (g.H.Host.outside c.args.host.now).disk) (sym c.clear.ensures) c.requires.reading;
  room = omega (arith, c.requires.most, ap (λ (w : WaitingState). length w.records) c.clear.ensures, ap (λ (w : WaitingState). w.most) c.clear.ensures);
  advances = λ begin disk first. (first, sends_nothing_read first (reads_nothing _ (g.met.H.Host.sent_now c.args.host.now)));
  base = refl;
  workers = refl;
  unasked = λ none empty. (reads_nothing _ (g.met.H.Host.sent_now c.args.host.now), empty);
  keeps = only_read (reads_nothing _ (g.met.H.Host.sent_now c.args.host.now));
  none = no_fault _;
}

pub returns-in_err-more-clause-moments : goal.returns-in_err-more-clause-moments
returns-in_err-more-clause-moments g c = λ begin disk first. rebased c.args.from c.batches.invariant.base (read_on (c.batches.invariant.advances begin disk (gathers_first first c.clear.ensures)) c.gather.ensures.keeps)

pub returns-in_err-more-clause-hindered : goal.returns-in_err-more-clause-hindered
returns-in_err-more-clause-hindered g c =
    answered_on _ c.from_residual.result c.from_residual.ensures.1
    (hinders_on _ _ c.batches.invariant.none (λ at there begin disk first. there c.args.from begin disk (c.batches.invariant.advances begin disk (gathers_first first c.clear.ensures)).0)
    (λ missing. missing) (λ short. absurd short) c.in_err-more.ensures.hindered)

pub returns-in_err-settle-clause-moments : goal.returns-in_err-settle-clause-moments
returns-in_err-settle-clause-moments g c = λ begin disk first.
    let so_far = c.batches.invariant.advances begin disk (gathers_first first c.clear.ensures) in
    rebased c.args.from c.batches.invariant.base (again_then c.args.from _ (read_on so_far c.gather.ensures.keeps)
    (rebased c.args.from c.gather.ensures.base (c.settle.ensures.moments begin disk (c.in_ok-more.ensures.gathers c.args.from begin disk so_far.0))))

pub returns-in_err-settle-clause-hindered : goal.returns-in_err-settle-clause-hindered
returns-in_err-settle-clause-hindered g c =
    answered_on _ c.from_residual-in_err-settle.result c.from_residual-in_err-settle.ensures.1
    (fault_hinders _ _ _ _ c.in_err-settle.was c.settle.ensures.outside.unread
    (λ short begin disk first.
    subst (λ (b : Option Base). StarvesAgain (workers_of c.args.self.now.engine.evaluator) c.args.from b begin disk (g.H.Host.outside c.settle.new.host)) (c.gather.ensures.base ∙ c.batches.invariant.base)
    (subst (λ (n : ℕ). StarvesAgain n c.args.from c.gather.new.self.scan.base begin disk (g.H.Host.outside c.settle.new.host)) (c.gather.ensures.workers ∙ c.batches.invariant.workers)
    (c.settle.ensures.starved begin disk (c.in_ok-more.ensures.gathers c.args.from begin disk (c.batches.invariant.advances begin disk (gathers_first first c.clear.ensures)).0) short)))
    (faultless c.batches.invariant.none c.in_ok-more.ensures.none) c.in_err-settle.ensures.outside.causes)

pub settle-requires-clause-most : goal.settle-requires-clause-most
settle-requires-clause-most g c κs within = omega (arith, c.batches.invariant.room, c.gather.ensures.most)

pub batches-preserved : goal.batches-preserved
batches-preserved g c = record {
  reading = c.in_ok-settle.ensures.reading;
  room = c.in_ok-settle.ensures.room;
  advances = λ begin disk first.
      let so_far = c.batches.invariant.advances begin disk first in
      let next = c.in_ok-more.ensures.gathers c.args.from begin disk so_far.0 in (
        c.in_ok-settle.ensures.settles begin disk next,
        rebased c.args.from (sym (ap (λ (s : ScanState). s.base) c.settle.ensures.scan ∙ c.gather.ensures.base))
            (again_then c.args.from _ (read_on so_far c.gather.ensures.keeps) (rebased c.args.from c.gather.ensures.base (c.settle.ensures.moments begin disk next))),
      );
  base = ap (λ (s : ScanState). s.base) c.settle.ensures.scan ∙ c.gather.ensures.base ∙ c.batches.invariant.base;
  workers = c.settle.ensures.workers ∙ c.gather.ensures.workers ∙ c.batches.invariant.workers;
  unasked = λ none empty.
      let so_far = c.batches.invariant.unasked none empty in
      let quiet = c.in_ok-settle.ensures.unasked none (c.gather.ensures.outbox ∙ so_far.1) in
      (subst (λ (h : _). OnlyReadsDisk (g.H.Host.outside c.args.host.now) (g.H.Host.outside h)) (sym quiet.0) (reads_on so_far.0 c.gather.ensures.keeps), quiet.2);
  keeps = recovers_on (recovers_on c.batches.invariant.keeps (only_read c.gather.ensures.keeps)) (only_sent c.settle.ensures.outside.keeps);
  none = faultless (faultless c.batches.invariant.none c.in_ok-more.ensures.none) c.in_ok-settle.ensures.outside.causes;
}

-- the end was read, and nothing waits
pub returns-then-not-more-clause-recovers : goal.returns-then-not-more-clause-recovers
returns-then-not-more-clause-recovers g c = λ begin disk first.
    let so_far = c.batches.invariant.advances begin disk (gathers_first first c.clear.ensures) in
    gathered (c.in_ok-settle.ensures.settles begin disk (c.in_ok-more.ensures.gathers c.args.from begin disk so_far.0)) (c.in_ok-settle.ensures.all (λ yes. cc (c.if-not-more.true, yes)))

pub returns-then-not-more-clause-moments : goal.returns-then-not-more-clause-moments
returns-then-not-more-clause-moments g c = λ begin disk first.
    let so_far = c.batches.invariant.advances begin disk (gathers_first first c.clear.ensures) in
    rebased c.args.from c.batches.invariant.base (again_then c.args.from _ (read_on so_far c.gather.ensures.keeps)
    (rebased c.args.from c.gather.ensures.base (c.settle.ensures.moments begin disk (c.in_ok-more.ensures.gathers c.args.from begin disk so_far.0))))

pub returns-then-not-more-clause-reading : goal.returns-then-not-more-clause-reading
returns-then-not-more-clause-reading g c =
    subst (λ (waiting : List Record). IsReading c.settle.new.self.scan c.settle.new.self.engine (length waiting) (g.H.Host.outside c.settle.new.host).disk)
    (c.in_ok-settle.ensures.all (λ yes. cc (c.if-not-more.true, yes))) c.in_ok-settle.ensures.reading

pub returns-then-not-more-clause-closed : goal.returns-then-not-more-clause-closed
returns-then-not-more-clause-closed g c = subst (λ (scan : _). IsTrue scan.is_closed) (sym c.settle.ensures.scan) (c.gather.ensures.closed (c.in_ok-more.was ∙ ap Ok c.if-not-more.true))

-- where no message is asked for, and nothing waits, the disk is only read
pub returns-in_err-more-clause-unasked : goal.returns-in_err-more-clause-unasked
returns-in_err-more-clause-unasked g c = λ none empty. (
  told_unsent c.from_residual.result c.from_residual.ensures.1 (λ is. c.gather.ensures.unsent (c.in_err-more.was ∙ ap Err is)),
  reads_on (c.batches.invariant.unasked none empty).0 c.gather.ensures.keeps,
)

pub returns-in_err-settle-clause-unasked : goal.returns-in_err-settle-clause-unasked
returns-in_err-settle-clause-unasked g c = λ none empty.
    let so_far = c.batches.invariant.unasked none empty in
    let quiet = c.settle.ensures.unasked none (c.gather.ensures.outbox ∙ so_far.1) in (
      told_unsent c.from_residual-in_err-settle.result c.from_residual-in_err-settle.ensures.1 (fault_unsent _ (λ is. quiet.1 (c.in_err-settle.was ∙ ap Err is))),
      subst (λ (h : _). OnlyReadsDisk (g.H.Host.outside c.args.host.now) (g.H.Host.outside h)) (sym quiet.0) (reads_on so_far.0 c.gather.ensures.keeps),
    )

pub returns-then-not-more-clause-unasked : goal.returns-then-not-more-clause-unasked
returns-then-not-more-clause-unasked g c = λ none empty.
    let so_far = c.batches.invariant.unasked none empty in
    let quiet = c.in_ok-settle.ensures.unasked none (c.gather.ensures.outbox ∙ so_far.1) in
    (λ is. cc is, subst (λ (h : _). OnlyReadsDisk (g.H.Host.outside c.args.host.now) (g.H.Host.outside h)) (sym quiet.0) (reads_on so_far.0 c.gather.ensures.keeps))
