use Rattle.std.proofs.Common.{◌≡◌, ℕ, ◌+◌, ◌<◌, [], ◌∷◌, ◌++◌, length, length-append, refl, sym, ap, subst, ◌∙◌, arith}
use Rattle.std.specs.Prelude.{slice_set}
use Rattle.std.proofs.lemmas.List.{length-set}
use Rattle.std.proofs.lemmas.Option.{slice_get_within}
use Rattle.shard_core.proofs.WorkedJobs.{BackFrom, back_less, first_less}
use Rattle.shard_core.proofs.Working.{few_on}
use Rattle.shard_core.proofs.jobs.take_back.Goals as goal

pub loop-job-init : goal.loop-job-init
loop-job-init c = record {
  first = λ k job found. found;
  back = λ k job le found. absurd (let within = slice_get_within _ k job found in omega arith);
  left = omega (arith, c.requires.jobs);
  parts = refl;
  told = c.requires.told;
  few = c.requires.few;
}

pub loop-job-preserved : goal.loop-job-preserved
loop-job-preserved c =
    let inv = c.loop-job.invariant in
    let job = c.in-Some.job in
    let old = c.loop-job.left.items in
    let new = c.pop.new.self.items in
    let is : old ≡ new ++ job ∷ [] = c.in-Some.ensures.items in
    let many : length old ≡ length new + 1 = ap length is ∙ length-append new (job ∷ []) in
    let here : c.len-index.result ≡ length new = omega (arith, c.len-index.ensures, c.pop.new.self.ok.0) in
    let part_at : length new < length c.loop-job.parts = omega (arith, many, inv.left, inv.parts) in
    let list_at : length new < length c.loop-job.told = omega (arith, many, inv.left, inv.told) in
    record {
      first = first_less c.args.jobs.items old new job is inv.first;
      back = subst (λ (n : ℕ). BackFrom (length new) c.args.jobs.items (slice_set c.loop-job.parts n job.section) (slice_set c.loop-job.told n job.told)) (sym here)
          (back_less c.args.jobs.items old new job c.loop-job.parts c.loop-job.told is many part_at list_at c.if-job.false inv.first inv.back);
      left = omega (arith, many, inv.left);
      parts = length-set c.loop-job.parts c.len-index.result job.section ∙ inv.parts;
      told = length-set c.loop-job.told c.len-index.result job.told ∙ inv.told;
      few = few_on c.len-index.result c.loop-job.parts job.section inv.few job.few;
    }
