use Rattle.std.proofs.Common.{◌≡◌, ℕ, ◌+◌, ◌<◌, ◌≤◌, List, length, get_or, Some, refl, sym, ap, subst, ◌∙◌, arith}
use Rattle.std.specs.Prelude.{◌==◌, slice_get}
use Rattle.std.proofs.lemmas.List.{length-set}
use Rattle.std.proofs.lemmas.Option.{slice_get-get_or}
use Rattle.rulebook.specs.Admission.{most_names}
use Rattle.market_core.specs.Sections.{SectionState}
use Rattle.shard_core.specs.declared.job.PartJob.{PartJob}
use Rattle.shard_core.specs.Jobs.{AreJobsOf}
use Rattle.shard_core.specs.Turns.{first_id}
use Rattle.shard_core.proofs.WorkedJobs.{one_job}
use Rattle.shard_core.proofs.Working.{few_on, next_id, others_stay, still}
use Rattle.shard_core.proofs.jobs.jobs_of.Goals as goal

pub loop-k-init : goal.loop-k-init
loop-k-init c = record {
  jobs = subst (λ (js : List PartJob). AreJobsOf c.args.parts.now c.args.xs.now c.args.turns.now js) (sym (c.in_ok-jobs.ensures).items) (λ k job found. absurd cc);
  len = (c.in_ok-jobs.ensures).len;
  room = omega (arith, (c.in_ok-jobs.ensures).exact);
  later = λ j le. refl;
  parts = refl;
  told = c.requires.told;
  start = refl;
  low = omega arith;
  few = c.requires.few;
}

pub loop-k-preserved : goal.loop-k-preserved
loop-k-preserved c =
    let k = c.loop-k.k in
    let olds = c.args.parts.now in
    let now = c.loop-k.parts in
    let inv = c.loop-k.invariant in
    let jobs = c.loop-k.jobs.items in
    let within : k < length olds = c.loop-k-test.true in
    let was = get_or now k c.index-parts-k-in-loop-k.result in
    let first = c.index-parts-k.result in
    let len_is : c.len-start.result ≡ length (get_or now k first).symbols = c.len-start.ensures in
    let few_here : length (get_or now k first).symbols ≤ most_names = inv.few k (get_or now k first) (slice_get-get_or now k first (omega (arith, within, inv.parts))) in
    let at : slice_get olds k ≡ Some was = sym (inv.later k (omega arith)) ∙ slice_get-get_or now k c.index-parts-k-in-loop-k.result (omega (arith, within, inv.parts)) in
    let here : k ≡ length jobs = omega (arith, inv.len, c.loop-k.jobs.ok.0) in
    let own = (c.in_ok-job.ensures).job in
    record {
      jobs = subst (λ (js : List PartJob). AreJobsOf olds c.args.xs.now c.args.turns.now js) (sym c.push_reserved.ensures.items)
          (one_job olds c.args.xs.now c.args.turns.now jobs c.in_ok-job.job was inv.jobs (subst (λ (n : ℕ). slice_get olds n ≡ Some was) here at) (record {
            at = own.at ∙ omega (arith, here, within, c.requires.parts);
            before = own.before;
            own = own.own ∙ (λ i. record { start = (inv.start ∙ ap (first_id olds) here) i; is_last = here i + 1 == length olds });
            records = own.records;
            turned = own.turned;
          }));
      len = omega (arith, c.push_reserved.ensures.len, inv.len);
      room = omega (arith, c.push_reserved.ensures.capacity, inv.room);
      later = others_stay k olds now c.job_of.new.part inv.later;
      parts = length-set now k c.job_of.new.part ∙ inv.parts;
      told = length-set c.loop-k.told k c.job_of.new.list ∙ inv.told;
      start = (λ i. inv.start i + (len_is ∙ ap (λ (s : SectionState). length s.symbols) (still k olds now first within inv.parts inv.later)) i) ∙ sym (next_id olds k first within);
      low = omega (arith, inv.low, len_is, few_here);
      few = few_on k now c.job_of.new.part inv.few c.job_of.ensures.few;
    }
