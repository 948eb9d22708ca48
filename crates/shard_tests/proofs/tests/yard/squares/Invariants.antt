use Rattle.std.proofs.Common.{◌≡◌, ℕ, ◌≤◌, Some, vec_len, vec_capacity}
use Rattle.std.specs.Prelude.{slice_get}
use Rattle.shard_tests.specs.declared.square.Square.{Square}
use Rattle.shard_tests.proofs.tests.yard.squares.Given as goal

abbrev pub invariant-loop-place : goal.invariant-loop-place
invariant-loop-place l = (vec_len l.jobs ≡ l.place) × (64 ≤ vec_capacity l.jobs) × ((k : ℕ) (job : Square) → slice_get l.jobs.items k ≡ Some job → job.place ≡ k)
