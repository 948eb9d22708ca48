use Rattle.std.proofs.Common.{List, subst, arith}
use Rattle.std.proofs.lemmas.List.{take_all}
use Rattle.host_core.proofs.Causes.{no_fault, faultless}
use Rattle.host_core.proofs.Chains.{sends_nothing, onward}
use Rattle.wire_in.specs.declared.record.Record.{Record}
use Rattle.journal_core.specs.Layout.{with_batch}
use Rattle.stream_core.specs.Pending.{Expects}
use Rattle.stream_core.proofs.Pending.{expects_same}
use Rattle.stream_core.proofs.Sending.{sends_none, sends_whole}
use Rattle.standby_core.specs.Shipped.{parts_behind}
use Rattle.standby_core.proofs.PartTexts.{batch_first, batch_part, next_part, ships_part}
use Rattle.standby_core.proofs.shipping.ship_records.Goals as goal

pub loop-x-init : goal.loop-x-init
loop-x-init g c = record {
  number = omega arith;
  advances = λ begin past held counted expects.
      (expects, ships_part past c.args.from (batch_first held c.args.records.now) (sends_none (g.H.Host.outside c.args.host.now) (g.met.H.Host.sent_now c.args.host.now) _ _ expects));
  keeps = sends_nothing _;
  none = no_fault _;
}

pub ship_record-requires-clause-some : goal.ship_record-requires-clause-some
ship_record-requires-clause-some g c = λ zero. omega (arith, zero)

pub loop-x-preserved : goal.loop-x-preserved
loop-x-preserved g c =
    let xs = c.args.records.now in
    let i = c.loop-x.x-index in
    let x = c.x-item.result in
    record {
      number = omega (arith, c.loop-x.invariant.number);
      advances = λ begin past held counted expects.
          let so_far = c.loop-x.invariant.advances begin past held counted expects in (
            expects_same _ _ (next_part past c.args.from _ i held xs x c.loop-x-test.true c.x-item.is (omega (arith, c.loop-x.invariant.number, counted)))
                (c.in_ok-ship_record.ensures.pending begin _ so_far.0),
            sends_whole so_far.1 (ships_part past c.args.from (batch_part held xs i) (c.ship_record.ensures.moments begin _ so_far.0)),
          );
      keeps = onward c.loop-x.invariant.keeps c.ship_record.ensures.outside.keeps;
      none = faultless c.loop-x.invariant.none c.in_ok-ship_record.ensures.outside.causes;
    }

pub returns-in_err-ship_record-clause-moments : goal.returns-in_err-ship_record-clause-moments
returns-in_err-ship_record-clause-moments g c = λ begin past held counted expects.
    let so_far = c.loop-x.invariant.advances begin past held counted expects in
    sends_whole so_far.1 (ships_part past c.args.from (batch_part held c.args.records.now c.loop-x.x-index) (c.ship_record.ensures.moments begin _ so_far.0))

pub returns-clause-pending : goal.returns-clause-pending
returns-clause-pending g c = λ begin past held counted expects.
    let so_far = c.loop-x.invariant.advances begin past held counted expects in
    subst (λ (b : List Record). Expects begin (g.H.Host.outside c.loop-x.host).sent c.loop-x.outbox (parts_behind past c.args.from (with_batch held b))) (take_all c.loop-x.x-index c.args.records.now c.loop-x-test.false) so_far.0

pub returns-clause-moments : goal.returns-clause-moments
returns-clause-moments g c = λ begin past held counted expects. (c.loop-x.invariant.advances begin past held counted expects).1
