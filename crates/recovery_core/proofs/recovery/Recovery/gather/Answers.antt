use Rattle.std.proofs.Common.{◌≡◌, ◌≤◌, inr, ℕ, List, true, Ok, length, sym, ap, subst, ◌∙◌, arith}
use Rattle.std.proofs.lemmas.List.{length-append}
use Rattle.host_core.proofs.Chains.{reads_faultless}
use Rattle.wire_in.specs.declared.record.Record.{Record}
use Rattle.journal_core.specs.Layout.{records_of}
use Rattle.journal_core.proofs.Offsets.{scan_reaches}
use Rattle.engine_core.specs.EngineState.{IsRoomy}
use Rattle.recovery_core.specs.Recoveries.{HasDamage}
use Rattle.recovery_core.specs.Waiting.{WaitingState}
use Rattle.recovery_core.proofs.Recovering.{gathers_end, gathers_batch, last_newest, bad_record_there, bad_form_there, answered_on, scan_hinders, scan_unsent, told_unsent}
use Rattle.recovery_core.proofs.recovery.Recovery.gather.Goals as goal

pub next-requires : goal.next-requires
next-requires g c = scan_reaches c.requires.reading.of_disk

pub returns-in_err-more-clause-hindered : goal.returns-in_err-more-clause-hindered
returns-in_err-more-clause-hindered g c =
    answered_on _ c.from_residual.result c.from_residual.ensures.1
    (scan_hinders _ _ _ c.next.result _ c.in_err-more.was c.next.ensures.keeps c.next.ensures.faultless c.next.ensures.cause c.next.ensures.no_journal c.next.ensures.no_memory
    (λ at is from begin disk first. (_, _, _, inr (bad_form_there first at (c.next.ensures.at_damage at is) (c.next.ensures.damaged at is first.batches disk first.rests.known first.read)))))

pub returns-in_err-more-clause-unsent : goal.returns-in_err-more-clause-unsent
returns-in_err-more-clause-unsent g c = told_unsent c.from_residual.result c.from_residual.ensures.1 (scan_unsent _)

-- the gate is closed
pub returns-then-not-more-clause-gathers : goal.returns-then-not-more-clause-gathers
returns-then-not-more-clause-gathers g c = λ from begin disk first.
    gathers_end first c.next.ensures.keeps c.next.new.self c.next.ensures.capacity c.next.ensures.base (c.next.ensures.same (λ is. cc (c.in_ok-more.was, c.if-not-more.true, is)) first.batches disk first.rests.known first.read)

pub returns-then-not-more-clause-reading : goal.returns-then-not-more-clause-reading
returns-then-not-more-clause-reading g c =
    let none : length c.next.new.into ≡ 0 = ap length (c.next.ensures.empty (λ is. cc (c.in_ok-more.was, c.if-not-more.true, is))) in
    record {
      of_disk = c.next.ensures.of_disk c.requires.reading.of_disk;
      capacity = c.next.ensures.capacity ∙ c.requires.reading.capacity;
      count = omega (arith, c.next.ensures.count, c.requires.reading.count, none);
      small = c.requires.reading.small;
      all = c.requires.reading.all;
      roomy = c.requires.reading.roomy;
    }

pub returns-then-not-more-clause-none : goal.returns-then-not-more-clause-none
returns-then-not-more-clause-none g c = reads_faultless c.next.ensures.keeps (c.next.ensures.faultless (λ is. cc (c.in_ok-more.was, is)))

-- a record may not follow
pub returns-then-not-all-clause-hindered : goal.returns-then-not-all-clause-hindered
returns-then-not-all-clause-hindered g c = (
  reads_faultless c.next.ensures.keeps (c.next.ensures.faultless (λ is. cc (c.in_ok-more.was, is))),
  λ from begin disk first.
      let there : c.next.result ≡ Ok true = c.in_ok-more.was ∙ ap Ok c.if-not-more.false in
      subst (λ (at : ℕ). HasDamage at disk) (sym c.at.ensures) (
        _,
        _,
        _,
        inr (bad_record_there first c.next.ensures.keeps c.next.new.self c.next.ensures.capacity c.next.ensures.base c.list-records.ensures.records (c.next.ensures.batch there first.batches disk first.rests.known first.read)
            (c.next.ensures.at_batch there) (c.admit_all-all.ensures.refuses _ _ _ _ first.resumes.admits (λ yes. cc (c.if-not-all.true, yes)))),
      ),
)

-- all of the batch was admitted
pub returns-clause-gathers : goal.returns-clause-gathers
returns-clause-gathers g c = λ from begin disk first.
    let there : c.next.result ≡ Ok true = c.in_ok-more.was ∙ ap Ok c.if-not-more.false in
    gathers_batch first c.next.ensures.keeps c.next.new.self c.next.ensures.capacity c.next.ensures.base c.list-records.ensures.records (c.next.ensures.batch there first.batches disk first.rests.known first.read)
    c.admit_all-all.new.engine c.append.new.self c.copied-self.result c.admit_all-all.ensures.rest (ap (λ (w : WaitingState). w.records) c.append.ensures) (c.admit_all-all.ensures.admits _ _ _ _ first.resumes.admits c.if-not-all.false)
    (c.copied-self.ensures ∙ c.last.ensures.value ∙ last_newest _ (records_of first.batches) c.list-records.result.now (subst (λ (b : List Record). 1 ≤ length b) (sym c.list-records.ensures.records) (c.next.ensures.valid there).least))

pub returns-clause-reading : goal.returns-clause-reading
returns-clause-reading g c =
    let count = c.admit_all-all.ensures.count c.if-not-all.false in
    record {
      of_disk = c.next.ensures.of_disk c.requires.reading.of_disk;
      capacity = c.next.ensures.capacity ∙ c.requires.reading.capacity ∙ sym c.admit_all-all.ensures.capacity;
      count = omega (arith, c.next.ensures.count, c.requires.reading.count, count, ap length c.list-records.ensures.records);
      small = c.admit_all-all.ensures.small;
      all = omega (arith, c.requires.reading.all, count, ap (λ (e : _). e.evaluated) c.admit_all-all.ensures.rest, ap (λ (w : WaitingState). length w.records) c.append.ensures, length-append c.args.self.now.waiting.records c.list-records.result.now);
      roomy = subst IsRoomy (sym c.admit_all-all.ensures.rest) c.requires.reading.roomy;
    }

pub returns-clause-none : goal.returns-clause-none
returns-clause-none g c = reads_faultless c.next.ensures.keeps (c.next.ensures.faultless (λ is. cc (c.in_ok-more.was, is)))
