use Rattle.std.proofs.Common.{◌≡◌, inr, ℕ, true, Ok, length, sym, ap, subst, ◌∙◌, arith}
use Rattle.host_core.proofs.Chains.{reads_faultless}
use Rattle.journal_core.proofs.Offsets.{scan_reaches}
use Rattle.recovery_core.specs.Recoveries.{HasDamage}
use Rattle.recovery_core.proofs.Recovering.{answered_on, scan_hinders}
use Rattle.standby_core.proofs.Admitting.{reads_end, reads_batch, bad_record_there, bad_form_there}
use Rattle.standby_core.proofs.reading.Reading.next.Goals as goal

pub next-requires : goal.next-requires
next-requires g c = scan_reaches c.requires.of_disk

pub returns-in_err-more-clause-hindered : goal.returns-in_err-more-clause-hindered
returns-in_err-more-clause-hindered g c =
    answered_on _ c.from_residual.result c.from_residual.ensures.1
    (scan_hinders _ _ _ c.next.result _ c.in_err-more.was c.next.ensures.keeps c.next.ensures.faultless c.next.ensures.cause c.next.ensures.no_journal c.next.ensures.no_memory
    (λ at is batches disk r. (_, _, _, inr (bad_form_there r at (c.next.ensures.at_damage at is) (c.next.ensures.damaged at is batches disk r.rests.known r.read)))))

-- the gate is closed
pub returns-then-not-more-clause-end : goal.returns-then-not-more-clause-end
returns-then-not-more-clause-end g c = λ batches disk r _.
    reads_end r c.next.ensures.keeps c.next.new.self c.next.ensures.capacity c.next.ensures.base _ (c.next.ensures.same (λ is. cc (c.in_ok-more.was, c.if-not-more.true, is)) batches disk r.rests.known r.read)

pub returns-then-not-more-clause-in_step : goal.returns-then-not-more-clause-in_step
returns-then-not-more-clause-in_step g c =
    let none : length c.next.new.into ≡ 0 = ap length (c.next.ensures.empty (λ is. cc (c.in_ok-more.was, c.if-not-more.true, is))) in
    record {
      of_disk = c.next.ensures.of_disk c.requires.of_disk;
      capacity = c.next.ensures.capacity ∙ c.requires.capacity;
      count = omega (arith, c.next.ensures.count, c.requires.count, none);
      few = c.requires.few;
      within = c.requires.within;
    }

pub returns-then-not-more-clause-count : goal.returns-then-not-more-clause-count
returns-then-not-more-clause-count g c =
    let none : length c.next.new.into ≡ 0 = ap length (c.next.ensures.empty (λ is. cc (c.in_ok-more.was, c.if-not-more.true, is))) in
    omega (arith, none)

pub returns-then-not-more-clause-none : goal.returns-then-not-more-clause-none
returns-then-not-more-clause-none g c = reads_faultless c.next.ensures.keeps (c.next.ensures.faultless (λ is. cc (c.in_ok-more.was, is)))

-- a record may not follow
pub returns-then-not-all-clause-hindered : goal.returns-then-not-all-clause-hindered
returns-then-not-all-clause-hindered g c = (
  reads_faultless c.next.ensures.keeps (c.next.ensures.faultless (λ is. cc (c.in_ok-more.was, is))),
  λ batches disk r.
      let there : c.next.result ≡ Ok true = c.in_ok-more.was ∙ ap Ok c.if-not-more.false in
      subst (λ (at : ℕ). HasDamage at disk) (sym c.at.ensures) (
        _,
        _,
        _,
        inr (bad_record_there r c.next.ensures.keeps c.next.new.self c.next.ensures.capacity c.next.ensures.base c.list.ensures.records (c.next.ensures.batch there batches disk r.rests.known r.read)
            (c.next.ensures.at_batch there) (c.admit_all-all.ensures.refuses _ _ _ r.admits (λ yes. cc (c.if-not-all.true, yes)))),
      ),
)

-- all of the batch was admitted
pub returns-clause-batch : goal.returns-clause-batch
returns-clause-batch g c = λ batches disk r _.
    let there : c.next.result ≡ Ok true = c.in_ok-more.was ∙ ap Ok c.if-not-more.false in
    reads_batch r c.next.ensures.keeps c.next.new.self c.next.ensures.capacity c.next.ensures.base c.list.ensures.records (c.next.ensures.batch there batches disk r.rests.known r.read)
    c.admit_all-all.new.admission (c.admit_all-all.ensures.admits _ _ _ r.admits c.if-not-all.false)

pub returns-clause-in_step : goal.returns-clause-in_step
returns-clause-in_step g c =
    let count = c.admit_all-all.ensures.count c.if-not-all.false in
    record {
      of_disk = c.next.ensures.of_disk c.requires.of_disk;
      capacity = c.next.ensures.capacity ∙ c.requires.capacity ∙ sym c.admit_all-all.ensures.capacity;
      count = omega (arith, c.next.ensures.count, c.requires.count, count, ap length c.list.ensures.records);
      few = omega (arith, c.admit_all-all.ensures.capacity, c.requires.few);
      within = c.admit_all-all.ensures.within;
    }

pub returns-clause-count : goal.returns-clause-count
returns-clause-count g c = omega (arith, c.admit_all-all.ensures.count c.if-not-all.false, ap length c.list.ensures.records)

pub returns-clause-none : goal.returns-clause-none
returns-clause-none g c = reads_faultless c.next.ensures.keeps (c.next.ensures.faultless (λ is. cc (c.in_ok-more.was, is)))
