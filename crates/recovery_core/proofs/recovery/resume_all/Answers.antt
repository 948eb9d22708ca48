use Rattle.std.proofs.Common.{◌≡◌, ◌≤◌, ℕ, zero, suc, List, [], Err, length, refl, sym, ap, subst, ◌∙◌, arith, rules}
use Rattle.std.proofs.lemmas.List.{drop_all, nil_from_length}
use Rattle.wire_in.specs.declared.record.Record.{Record}
use Rattle.host_core.proofs.Chains.{sends_nothing, onward}
use Rattle.host_core.proofs.Causes.{no_fault, faultless}
use Rattle.stream_core.proofs.Sending.{sends_none}
use Rattle.evaluator_core.specs.Evaluating.{IsWorking}
use Rattle.engine_core.specs.declared.engine.Engine.{Engine}
use Rattle.engine_core.proofs.Answering.{drop_one}
use Rattle.recovery_core.specs.Origins.{again}
use Rattle.recovery_core.specs.Recoveries.{Resumes}
use Rattle.recovery_core.specs.Starved.{StarvedAtRecord}
use Rattle.recovery_core.proofs.Recovering.{err_unsent, sends_then, sends_pending, unless_ok}
use Rattle.recovery_core.proofs.recovery.resume_all.Goals as goal

pub loop-x-init : goal.loop-x-init
loop-x-init g c = record {
  advances = λ capacity base accepted begin first. (first, sends_pending first (λ begin text expects. sends_none _ (g.met.H.Host.sent_now c.args.host.now) c.args.outbox.now text expects));
  small = c.requires.small;
  count = omega (arith, c.requires.count);
  roomy = c.requires.roomy;
  first = λ none. refl;
  working = λ some. absurd (omega (arith, some));
  workers = refl;
  admission = refl;
  keeps = sends_nothing _;
  unasked = λ none empty. (refl, empty);
  none = no_fault _;
}

pub loop-x-preserved : goal.loop-x-preserved
loop-x-preserved g c =
    let split = drop_one c.args.records.now c.loop-x.x-index c.x-item.result c.loop-x-test.true c.x-item.is in
    record {
      advances = λ capacity base accepted begin first.
          let so_far = c.loop-x.invariant.advances capacity base accepted begin first in
          let next = rw split at so_far.0 in
          (c.in_ok-resume_record.ensures.resumes capacity base accepted _ begin next, sends_then so_far.1 (c.resume_record.ensures.moments capacity base accepted _ begin next));
      small = c.in_ok-resume_record.ensures.small;
      count = search rules;
      roomy = c.in_ok-resume_record.ensures.roomy;
      first = λ none. absurd (omega (arith, none));
      working = λ some. c.in_ok-resume_record.ensures.working;
      workers = c.resume_record.ensures.workers ∙ c.loop-x.invariant.workers;
      admission = c.resume_record.ensures.admission ∙ c.loop-x.invariant.admission;
      keeps = onward c.loop-x.invariant.keeps c.resume_record.ensures.outside.keeps;
      unasked = λ none empty.
          let so_far = c.loop-x.invariant.unasked none empty in
          let quiet = c.in_ok-resume_record.ensures.unasked none so_far.1 in
          (quiet.0 ∙ so_far.0, quiet.2);
      none = faultless c.loop-x.invariant.none c.in_ok-resume_record.ensures.outside.causes;
    }

pub returns-in_err-resume_record-clause-moments : goal.returns-in_err-resume_record-clause-moments
returns-in_err-resume_record-clause-moments g c = λ capacity base accepted begin first.
    let so_far = c.loop-x.invariant.advances capacity base accepted begin first in
    let split = drop_one c.args.records.now c.loop-x.x-index c.x-item.result c.loop-x-test.true c.x-item.is in
    sends_then so_far.1 (c.resume_record.ensures.moments capacity base accepted _ begin (rw split at so_far.0))

pub returns-in_err-resume_record-clause-starved : goal.returns-in_err-resume_record-clause-starved
returns-in_err-resume_record-clause-starved g c = λ capacity base accepted begin first is.
    let so_far = c.loop-x.invariant.advances capacity base accepted begin first in
    let split = drop_one c.args.records.now c.loop-x.x-index c.x-item.result c.loop-x-test.true c.x-item.is in
    subst (λ (n : ℕ). StarvedAtRecord n (again c.args.from base) accepted begin (g.H.Host.outside c.resume_record.new.host).sent) c.loop-x.invariant.workers
    (c.resume_record.ensures.starved capacity base accepted _ begin (rw split at so_far.0) (search rules))

pub returns-clause-resumes : goal.returns-clause-resumes
returns-clause-resumes g c = λ capacity base accepted begin first.
    subst (λ (later : List Record). Resumes c.args.from capacity base accepted later later begin c.loop-x.engine c.loop-x.outbox (g.H.Host.outside c.loop-x.host)) (drop_all c.loop-x.x-index c.args.records.now c.loop-x-test.false)
    (c.loop-x.invariant.advances capacity base accepted begin first).0

pub returns-clause-moments : goal.returns-clause-moments
returns-clause-moments g c = λ capacity base accepted begin first. (c.loop-x.invariant.advances capacity base accepted begin first).1

-- the engine works behind records, and where there were none, it is as it was
works : (count : ℕ) (records : List Record) (engine now : Engine) → (count ≡ 0 → now ≡ engine) → (1 ≤ count → IsWorking now.evaluator) → (records ≡ [] → IsWorking engine.evaluator)
    → length records ≤ count → IsWorking now.evaluator
works zero records engine now first working before all = subst (λ (e : Engine). IsWorking e.evaluator) (sym (first refl)) (before (nil_from_length records (omega (arith, all))))
works (suc count) records engine now first working before all = working (omega arith)

pub returns-clause-working : goal.returns-clause-working
returns-clause-working g c = λ before.
    works c.loop-x.x-index c.args.records.now c.args.engine.now c.loop-x.engine c.loop-x.invariant.first c.loop-x.invariant.working before (omega (arith, c.loop-x-test.false))

pub returns-in_err-resume_record-clause-unasked : goal.returns-in_err-resume_record-clause-unasked
returns-in_err-resume_record-clause-unasked g c = λ none empty.
    let so_far = c.loop-x.invariant.unasked none empty in
    let quiet = c.resume_record.ensures.unasked none so_far.1 in
    (quiet.0 ∙ so_far.0, err_unsent c.from_residual.result c.from_residual.ensures.1 (λ is. quiet.1 (c.in_err-resume_record.was ∙ ap Err is)), unless_ok _ c.from_residual.result _ c.from_residual.ensures.1)

pub returns-clause-unasked : goal.returns-clause-unasked
returns-clause-unasked g c = λ none empty.
    let so_far = c.loop-x.invariant.unasked none empty in
    (so_far.0, λ is. cc is, so_far.1)
