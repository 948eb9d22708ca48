use Rattle.std.proofs.Common.{inl, List, length, refl, ap, subst, arith}
use Rattle.host_core.proofs.Moments.{nothing, widened}
use Rattle.host_core.specs.Outside.{Elapses}
use Rattle.wire_in.specs.declared.record.Record.{Record}
use Rattle.journal_core.specs.Journal.{IsAtRest}
use Rattle.journal_core.specs.Layout.{with_batch}
use Rattle.journal_core.proofs.Offsets.{gate_reaches}
use Rattle.journal_core.proofs.Extending.{extends_by, extends_failed, extends_same, only_disk}
use Rattle.standby_core.specs.Standing.{Keeps, held_now}
use Rattle.standby_core.proofs.standing.keep_round.Goals as goal

pub returns-then-is_empty-clause-moments : goal.returns-then-is_empty-clause-moments
returns-then-is_empty-clause-moments g c = λ records rest.
    widened (nothing (g.H.Host.outside c.args.host.now) (g.met.H.Host.sent_now c.args.host.now)) _
    (λ image bytes stays. record { holds = inl (held_now c.args.journal.now records _ image _ refl rest stays.was); sent = stays.sent })

pub returns-then-is_empty-clause-extends : goal.returns-then-is_empty-clause-extends
returns-then-is_empty-clause-extends g c = extends_same refl (omega arith)

pub append-requires-clause-gate : goal.append-requires-clause-gate
append-requires-clause-gate g c = gate_reaches c.requires.of_disk

pub returns-in_err-append-clause-moments : goal.returns-in_err-append-clause-moments
returns-in_err-append-clause-moments g c = λ records rest.
    subst (λ (batch : List Record). Elapses (g.H.Host.outside c.args.host.now) (g.H.Host.outside c.append.new.host) (Keeps c.args.journal.now.capacity records batch (g.H.Host.outside c.args.host.now))) c.records-records.ensures.records
    (widened (c.append.ensures.moments records rest) _ (λ image bytes stop. record { holds = stop.holds; sent = stop.sent }))

pub returns-in_err-append-clause-extends : goal.returns-in_err-append-clause-extends
returns-in_err-append-clause-extends g c =
    let disk = only_disk c.append.result c.in_err-append.field-0.0 c.in_err-append.was c.args.journal.now.capacity c.append.ensures.full_limit
    (λ full. absurd (omega (arith, c.requires.room, ap length c.records-records.ensures.records, c.append.ensures.full.0 full))) in
    extends_failed c.append.ensures.keeps.continues.storing (c.append.ensures.cause disk)

pub returns-clause-moments : goal.returns-clause-moments
returns-clause-moments g c = λ records rest.
    subst (λ (batch : List Record). Elapses (g.H.Host.outside c.args.host.now) (g.H.Host.outside c.append.new.host) (Keeps c.args.journal.now.capacity records batch (g.H.Host.outside c.args.host.now))) c.records-records.ensures.records
    (widened (c.append.ensures.moments records rest) _ (λ image bytes stop. record { holds = stop.holds; sent = stop.sent }))

pub returns-clause-held : goal.returns-clause-held
returns-clause-held g c = λ records rest.
    subst (λ (batch : List Record). IsAtRest c.append.new.self (with_batch records batch) (g.H.Host.outside c.append.new.host)) c.records-records.ensures.records (c.in_ok-append.ensures.stored records rest)

pub returns-clause-extends : goal.returns-clause-extends
returns-clause-extends g c =
    extends_by _ _ _ c.args.journal.now c.records-records.result.now (omega (arith, ap length c.records-records.ensures.records, c.records-records.ensures.most)) c.append.ensures.keeps.continues.storing c.requires.of_disk c.in_ok-append.ensures.valid
    c.in_ok-append.ensures.written
