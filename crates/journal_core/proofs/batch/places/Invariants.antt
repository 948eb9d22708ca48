use Rattle.std.proofs.Common.{◌≡◌, ◌≤◌, vec_len, vec_capacity}
use Rattle.journal_core.proofs.batch.places.Given as goal

abbrev pub invariant-loop-place : goal.invariant-loop-place
invariant-loop-place l = record {
  len : vec_len l.places ≡ l._place;
  room : 64 ≤ vec_capacity l.places;
}
