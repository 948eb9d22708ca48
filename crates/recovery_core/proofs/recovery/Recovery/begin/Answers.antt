use Rattle.std.proofs.Common.{inl, inr, [], refl, sym, ap, ◌∙◌, arith}
use Rattle.std.specs.Prelude.{None, option_map}
use Rattle.host_core.proofs.Chains.{reads_faultless, reads_nothing}
use Rattle.wire_in.specs.declared.base.Base.{Base}
use Rattle.journal_core.proofs.Starts.{headed}
use Rattle.recovery_core.specs.Ends.{TellsNoStart}
use Rattle.recovery_core.proofs.Recovering.{answered_on, scan_hinders, scan_tells, none_fails, nothing_again, has_base}
use Rattle.recovery_core.proofs.recovery.Recovery.begin.Goals as goal

pub returns-in_default-clause-keeps : goal.returns-in_default-clause-keeps
returns-in_default-clause-keeps g c = reads_nothing (g.H.Host.outside c.args.host.now) (g.met.H.Host.sent_now c.args.host.now)

pub returns-in_err-scan-clause-hindered : goal.returns-in_err-scan-clause-hindered
returns-in_err-scan-clause-hindered g c =
    answered_on _ c.from_residual.result c.from_residual.ensures.1
    (scan_hinders _ _ _ c.begin.result _ c.in_err-scan.was c.begin.ensures.keeps c.begin.ensures.faultless c.begin.ensures.cause c.begin.ensures.no_journal c.begin.ensures.unbegun
    (λ at is disk known. let damaged = c.begin.ensures.damaged at is disk known in (damaged.0, None, [], inl (record { unreadable = damaged.1; no_base = refl; no_record = refl }))))

pub returns-in_err-scan-clause-kind : goal.returns-in_err-scan-clause-kind
returns-in_err-scan-clause-kind g c = answered_on TellsNoStart c.from_residual.result c.from_residual.ensures.1 (scan_tells _)

-- there was no memory for the last base or for its engine
pub returns-in_default-engine_before-clause-hindered : goal.returns-in_default-engine_before-clause-hindered
returns-in_default-engine_before-clause-hindered g c = (
  reads_faultless c.begin.ensures.keeps (c.begin.ensures.faultless (λ is. cc (c.in_ok-scan.was, is))),
  inr (λ disk known. has_base (c.in_ok-scan.ensures.read disk known) (λ none. none_fails c.engine_before.result (c.engine_before.ensures.succeeds none) c.in_default-engine_before.not-Ok)),
)

pub returns-clause-recovers : goal.returns-clause-recovers
returns-clause-recovers g c = λ from disk known. record {
  rests = record { known = known; settled = c.in_ok-scan.ensures.settled };
  batches = [];
  read = c.in_ok-scan.ensures.read disk known;
  admits = (c.in-Ok-engine_before.ensures).before.admits;
  idle = (c.in-Ok-engine_before.ensures).idle;
  working = (c.in-Ok-engine_before.ensures).working;
  pending_is = nothing_again from c.in_ok-scan.scan.base (g.H.Host.outside c.begin.new.host).sent c.args.outbox c.requires.outbox;
  newest_is = c.day_of-newest.ensures ∙ ap (option_map (λ (b : Base). b.day)) c.base.ensures.base;
}

pub returns-clause-reading : goal.returns-clause-reading
returns-clause-reading g c =
    let before = (c.in-Ok-engine_before.ensures).before in
    record {
      of_disk = c.in_ok-scan.ensures.of_disk;
      capacity = sym before.limit;
      count = c.in_ok-scan.ensures.begun.count ∙ sym before.count;
      small = before.small;
      all = omega (arith, before.all);
      roomy = (c.in-Ok-engine_before.ensures).roomy;
    }

pub returns-clause-header : goal.returns-clause-header
returns-clause-header g c = λ disk known. headed (c.in_ok-scan.ensures.header disk known)
