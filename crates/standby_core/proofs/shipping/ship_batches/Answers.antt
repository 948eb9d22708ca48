use Rattle.std.proofs.Common.{Ok, length, refl, sym, ap, subst, ◌∙◌, arith}
use Rattle.std.specs.Prelude.{All}
use Rattle.host_core.proofs.Causes.{no_fault, faultless}
use Rattle.host_core.proofs.Chains.{reads_nothing}
use Rattle.wire_in.specs.Spelling.{InRange}
use Rattle.recovery_core.proofs.Recovering.{answered_on, fault_hinders, hinders_on, only_read, only_sent, recovers_on}
use Rattle.standby_core.specs.Reading.{IsInStep}
use Rattle.standby_core.proofs.SentBatches.{before_is, expects_mid, ships_behind, ships_on, ships_then, shipped_batch, shipped_end, ships_batch, unread, unstarved}
use Rattle.standby_core.proofs.shipping.ship_batches.Goals as goal

pub batches-init : goal.batches-init
batches-init g c = record {
  in_step = c.requires;
  advances = λ begin disk first. (first, ships_on first (reads_nothing _ (g.met.H.Host.sent_now c.args.host.now)));
  base = refl;
  keeps = only_read (reads_nothing _ (g.met.H.Host.sent_now c.args.host.now));
  none = no_fault _;
}

pub returns-in_err-more-clause-moments : goal.returns-in_err-more-clause-moments
returns-in_err-more-clause-moments g c = λ begin disk first.
    let so_far = c.batches.invariant.advances begin disk first in
    ships_then c.args.from _ so_far.1 (ships_behind c.args.from c.batches.invariant.base (ships_on so_far.0 c.next.ensures.keeps))

pub returns-in_err-more-clause-base : goal.returns-in_err-more-clause-base
returns-in_err-more-clause-base g c = c.next.ensures.base ∙ c.batches.invariant.base

pub returns-in_err-more-clause-keeps : goal.returns-in_err-more-clause-keeps
returns-in_err-more-clause-keeps g c = recovers_on c.batches.invariant.keeps (only_read c.next.ensures.keeps)

pub returns-in_err-more-clause-hindered : goal.returns-in_err-more-clause-hindered
returns-in_err-more-clause-hindered g c =
    answered_on _ c.from_residual.result c.from_residual.ensures.1
    (hinders_on _ _ c.batches.invariant.none (λ at there begin disk first. let s = (c.batches.invariant.advances begin disk first).0 in there s.batches disk s.reads)
    (λ missing. missing) (λ short. short) c.in_err-more.ensures.hindered)

-- the end was read
pub returns-then-not-more-clause-ships : goal.returns-then-not-more-clause-ships
returns-then-not-more-clause-ships g c = λ begin disk first.
    let s = (c.batches.invariant.advances begin disk first).0 in
    shipped_end s c.next.ensures.keeps c.next.new.self c.next.ensures.base (c.next.ensures.end s.batches disk s.reads (c.in_ok-more.was ∙ ap Ok c.if-not-more.true))

pub returns-then-not-more-clause-moments : goal.returns-then-not-more-clause-moments
returns-then-not-more-clause-moments g c = λ begin disk first.
    let so_far = c.batches.invariant.advances begin disk first in
    ships_then c.args.from _ so_far.1 (ships_behind c.args.from c.batches.invariant.base (ships_on so_far.0 c.next.ensures.keeps))

pub returns-then-not-more-clause-base : goal.returns-then-not-more-clause-base
returns-then-not-more-clause-base g c = c.next.ensures.base ∙ c.batches.invariant.base

pub returns-then-not-more-clause-closed : goal.returns-then-not-more-clause-closed
returns-then-not-more-clause-closed g c = c.next.ensures.closed (c.in_ok-more.was ∙ ap Ok c.if-not-more.true)

pub returns-then-not-more-clause-keeps : goal.returns-then-not-more-clause-keeps
returns-then-not-more-clause-keeps g c = recovers_on c.batches.invariant.keeps (only_read c.next.ensures.keeps)

pub returns-then-not-more-clause-none : goal.returns-then-not-more-clause-none
returns-then-not-more-clause-none g c = faultless c.batches.invariant.none c.in_ok-more.ensures.none

-- a further batch
pub ship_records-requires-clause-ranges : goal.ship_records-requires-clause-ranges
ship_records-requires-clause-ranges g c = subst (All InRange) (sym c.list.ensures.records) c.list.ensures.ranges

pub ship_records-requires-clause-few : goal.ship_records-requires-clause-few
ship_records-requires-clause-few g c = omega (arith, c.count-before.ensures, c.in_ok-more.ensures.count, c.in_ok-more.ensures.in_step.within, c.in_ok-more.ensures.in_step.few, ap length c.list.ensures.records)

pub returns-in_err-ship_records-clause-moments : goal.returns-in_err-ship_records-clause-moments
returns-in_err-ship_records-clause-moments g c = λ begin disk first.
    let so_far = c.batches.invariant.advances begin disk first in
    let s = so_far.0 in
    let next = c.next.ensures.batch s.batches disk s.reads (c.in_ok-more.was ∙ ap Ok c.if-not-more.false) in
    ships_then c.args.from _ (ships_then c.args.from _ so_far.1 (ships_behind c.args.from c.batches.invariant.base (ships_on s c.next.ensures.keeps)))
    (ships_behind c.args.from c.batches.invariant.base (ships_batch s c.next.ensures.keeps c.next.new.self c.next.ensures.base c.list.ensures.records next
    (c.ship_records.ensures.moments begin _ _ (before_is s c.next.ensures.keeps c.next.new.self c.next.ensures.base c.list.ensures.records next c.count-before.ensures)
    (expects_mid s c.next.ensures.keeps c.next.new.self c.next.ensures.base c.list.ensures.records next))))

pub returns-in_err-ship_records-clause-base : goal.returns-in_err-ship_records-clause-base
returns-in_err-ship_records-clause-base g c = c.next.ensures.base ∙ c.batches.invariant.base

pub returns-in_err-ship_records-clause-keeps : goal.returns-in_err-ship_records-clause-keeps
returns-in_err-ship_records-clause-keeps g c = recovers_on (recovers_on c.batches.invariant.keeps (only_read c.next.ensures.keeps)) (only_sent c.ship_records.ensures.outside.keeps)

pub returns-in_err-ship_records-clause-hindered : goal.returns-in_err-ship_records-clause-hindered
returns-in_err-ship_records-clause-hindered g c =
    answered_on _ c.from_residual-in_err-ship_records.result c.from_residual-in_err-ship_records.ensures.1
    (fault_hinders _ _ _ _ c.in_err-ship_records.was (unread c.ship_records.result c.ship_records.ensures.outside.fault) (λ short. absurd (unstarved c.ship_records.result c.ship_records.ensures.outside.fault short))
    (faultless c.batches.invariant.none c.in_ok-more.ensures.none) c.in_err-ship_records.ensures.outside.causes)

pub batches-preserved : goal.batches-preserved
batches-preserved g c = record {
  in_step = subst (λ known. IsInStep c.next.new.self.scan c.next.new.self.admission known) (sym c.ship_records.ensures.outside.keeps.disk) c.in_ok-more.ensures.in_step;
  advances = λ begin disk first.
      let so_far = c.batches.invariant.advances begin disk first in
      let s = so_far.0 in
      let next = c.next.ensures.batch s.batches disk s.reads (c.in_ok-more.was ∙ ap Ok c.if-not-more.false) in
      let counted = before_is s c.next.ensures.keeps c.next.new.self c.next.ensures.base c.list.ensures.records next c.count-before.ensures in
      let expects = expects_mid s c.next.ensures.keeps c.next.new.self c.next.ensures.base c.list.ensures.records next in (
        shipped_batch s c.next.ensures.keeps c.next.new.self c.next.ensures.base c.list.ensures.records next c.ship_records.new.outbox c.ship_records.ensures.outside.keeps
            (c.in_ok-ship_records.ensures.pending begin _ _ counted expects),
        ships_then c.args.from _ (ships_then c.args.from _ so_far.1 (ships_behind c.args.from c.batches.invariant.base (ships_on s c.next.ensures.keeps)))
            (ships_behind c.args.from c.batches.invariant.base (ships_batch s c.next.ensures.keeps c.next.new.self c.next.ensures.base c.list.ensures.records next (c.ship_records.ensures.moments begin _ _ counted expects))),
      );
  base = c.next.ensures.base ∙ c.batches.invariant.base;
  keeps = recovers_on (recovers_on c.batches.invariant.keeps (only_read c.next.ensures.keeps)) (only_sent c.ship_records.ensures.outside.keeps);
  none = faultless (faultless c.batches.invariant.none c.in_ok-more.ensures.none) c.in_ok-ship_records.ensures.outside.causes;
}

pub batches-smaller : goal.batches-smaller
batches-smaller g c = omega (arith, c.next.ensures.goes_on (c.in_ok-more.was ∙ ap Ok c.if-not-more.false), c.next.ensures.size, c.next.ensures.within)
