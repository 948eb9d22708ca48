use Rattle.std.proofs.Common.{◌≡◌, ◌*◌, ◌≤◌, ℕ, length, vec_len, vec_capacity}
use Rattle.std.specs.Prelude.{slice_get}
use Rattle.rulebook.specs.Admission.{most_names}
use Rattle.shard_core.specs.Jobs.{AreJobsOf}
use Rattle.shard_core.specs.Turns.{AreFew, first_id}
use Rattle.shard_core.proofs.jobs.jobs_of.Given as goal

abbrev pub invariant-loop-k : goal.invariant-loop-k
invariant-loop-k l = record {
  jobs : AreJobsOf l.initial.parts l.xs l.turns l.jobs.items;
  len : vec_len l.jobs ≡ l.k;
  room : length l.initial.parts ≤ vec_capacity l.jobs;
  later : (j : ℕ) → l.k ≤ j → slice_get l.parts j ≡ slice_get l.initial.parts j;
  parts : length l.parts ≡ length l.initial.parts;
  told : length l.told ≡ length l.initial.parts;
  start : l.start ≡ first_id l.initial.parts l.k;
  low : l.start ≤ most_names * l.k;
  few : AreFew l.parts;
}
