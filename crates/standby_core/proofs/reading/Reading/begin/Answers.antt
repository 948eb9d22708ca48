use Rattle.std.proofs.Common.{inl, [], refl, sym, arith}
use Rattle.std.specs.Prelude.{None}
use Rattle.host_core.proofs.Chains.{reads_nothing}
use Rattle.journal_core.proofs.Starts.{headed}
use Rattle.recovery_core.specs.Ends.{TellsNoStart}
use Rattle.recovery_core.proofs.Recovering.{answered_on, scan_hinders, scan_tells}
use Rattle.standby_core.proofs.PartTexts.{origin_records}
use Rattle.standby_core.proofs.reading.Reading.begin.Goals as goal

pub returns-in_default-clause-keeps : goal.returns-in_default-clause-keeps
returns-in_default-clause-keeps g c = reads_nothing (g.H.Host.outside c.args.host.now) (g.met.H.Host.sent_now c.args.host.now)

pub returns-in_err-scan-clause-hindered : goal.returns-in_err-scan-clause-hindered
returns-in_err-scan-clause-hindered g c =
    answered_on _ c.from_residual.result c.from_residual.ensures.1
    (scan_hinders _ _ _ c.begin.result _ c.in_err-scan.was c.begin.ensures.keeps c.begin.ensures.faultless c.begin.ensures.cause c.begin.ensures.no_journal c.begin.ensures.unbegun
    (λ at is disk known. let damaged = c.begin.ensures.damaged at is disk known in (damaged.0, None, [], inl (record { unreadable = damaged.1; no_base = refl; no_record = refl }))))

pub returns-in_err-scan-clause-kind : goal.returns-in_err-scan-clause-kind
returns-in_err-scan-clause-kind g c = answered_on TellsNoStart c.from_residual.result c.from_residual.ensures.1 (scan_tells _)

pub returns-clause-reads : goal.returns-clause-reads
returns-clause-reads g c = λ disk known. record {
  rests = record { known = known; settled = c.in_ok-scan.ensures.settled };
  read = c.in_ok-scan.ensures.read disk known;
  admits = c.admission_before-admission.ensures.before;
}

pub returns-clause-in_step : goal.returns-clause-in_step
returns-clause-in_step g c =
    let a = c.admission_before-admission.ensures in
    record {
      of_disk = c.in_ok-scan.ensures.of_disk;
      capacity = sym a.before.limit;
      count = omega (arith, c.in_ok-scan.ensures.begun.count, a.before.count, origin_records c.in_ok-scan.scan.base);
      few = a.few;
      within = a.within;
    }

pub returns-clause-header : goal.returns-clause-header
returns-clause-header g c = λ disk known. headed (c.in_ok-scan.ensures.header disk known)
