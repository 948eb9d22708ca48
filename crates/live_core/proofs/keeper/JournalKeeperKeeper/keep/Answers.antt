use Rattle.std.proofs.Common.{List, length, sym, ap, ◌∙◌, arith}
use Rattle.host_core.specs.Outside.{Outside, Elapses, written}
use Rattle.host_core.proofs.Known.{mapped}
use Rattle.host_core.proofs.Moments.{widened}
use Rattle.wire_in.specs.declared.record.Record.{Record}
use Rattle.journal_core.specs.Journal.{JournalState, Appends}
use Rattle.journal_core.specs.Layout.{stored_batch}
use Rattle.journal_core.proofs.Appended.{adds_by}
use Rattle.journal_core.proofs.Extending.{extends_by, extends_failed, grown_behind, only_disk}
use Rattle.journal_core.proofs.Offsets.{gate_reaches}
use Rattle.engine_core.specs.Serving.{Keeps}
use Rattle.live_core.specs.InternalKeeping.{Regains}
use Rattle.live_core.proofs.keeper.JournalKeeperKeeper.keep.Goals as goal

-- what a stop of an append leaves
kept_by : (journal : JournalState) {records batch : List Record} {old new : Outside} → Elapses old new (Appends journal.capacity journal.gate records batch old)
    → Elapses old new (Keeps (λ r p i. Regains journal old r p i) records batch old)
kept_by journal {batch = batch} {old = old} run =
    widened run _ (λ image bytes stop. record { adds = adds_by {wider = λ r p. Regains journal old r p image} (λ held pending grown. record { before = stop.before; was = stop.was; most = length batch; grown = grown }) stop.grown; sent = stop.sent })

pub returns-in_err-append-clause-moments : goal.returns-in_err-append-clause-moments
returns-in_err-append-clause-moments g c = λ records rest. rw c.refill.ensures at (kept_by c.args.self.now.journal (c.append.ensures.moments records rest))

pub returns-clause-moments : goal.returns-clause-moments
returns-clause-moments g c = λ records rest. rw c.refill.ensures at (kept_by c.args.self.now.journal (c.append.ensures.moments records rest))

pub append-requires-clause-gate : goal.append-requires-clause-gate
append-requires-clause-gate g c = gate_reaches c.requires.room.of_disk

pub returns-in_err-append-clause-touches : goal.returns-in_err-append-clause-touches
returns-in_err-append-clause-touches g c =
    let fits = c.requires.room.room (length c.args.records.now) (omega arith) in
    let disk = only_disk c.append.result c.in_err-append.field-0.0 c.in_err-append.was c.args.self.now.journal.capacity c.append.ensures.full_limit (λ full. absurd (omega (arith, fits, ap length c.refill.ensures, c.append.ensures.full.0 full))) in
    extends_failed c.append.ensures.keeps.continues.storing (c.append.ensures.cause disk)

pub returns-clause-touches : goal.returns-clause-touches
returns-clause-touches g c =
    extends_by _ _ _ c.args.self.now.journal c.refill.new.batch (omega (arith, ap length c.refill.ensures)) c.append.ensures.keeps.continues.storing c.requires.room.of_disk c.in_ok-append.ensures.valid c.in_ok-append.ensures.written

-- what grew from the image after the append grew from the one before it
pub returns-clause-before : goal.returns-clause-before
returns-clause-before g c = λ records pending image r.
    let batch = c.refill.new.batch in
    let from = mapped (written c.args.self.now.journal.gate (stored_batch batch)) (g.H.Host.outside c.args.host.now).disk r.before
    (sym c.in_ok-append.ensures.written ∙ c.in_ok-append.ensures.settled.only r.before r.was) in
    record {
      before = from.0;
      was = g.met.H.Host.read_passes c.args.host.now from.0 from.1;
      most = r.most;
      grown = grown_behind batch (omega (arith, gate_reaches c.requires.room.of_disk from.0 from.1))
          (rw (c.append.ensures.capacity, c.in_ok-append.ensures.next, sym from.2) at r.grown);
    }

pub returns-clause-held : goal.returns-clause-held
returns-clause-held g c = λ records rest. rw c.refill.ensures at (c.in_ok-append.ensures.stored records rest)
