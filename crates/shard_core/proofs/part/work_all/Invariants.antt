use Rattle.std.proofs.Common.{◌≡◌, ◌*◌, ◌≤◌, ℕ, length}
use Rattle.std.specs.Prelude.{map, slice_get}
use Rattle.rulebook.specs.Admission.{most_names}
use Rattle.shard_core.specs.Turns.{AreFew, PartsTell, first_id, noted}
use Rattle.shard_core.proofs.part.work_all.Given as goal

abbrev pub invariant-loop-k : goal.invariant-loop-k
invariant-loop-k l = record {
  tells : PartsTell 0 l.k (noted l.xs l.turns) l.initial.parts l.parts (map (λ list. list.items) l.told);
  later : (j : ℕ) → l.k ≤ j → slice_get l.parts j ≡ slice_get l.initial.parts j;
  parts : length l.parts ≡ length l.initial.parts;
  told : length l.told ≡ length l.initial.parts;
  start : l.start ≡ first_id l.initial.parts l.k;
  low : l.start ≤ most_names * l.k;
  few : AreFew l.parts;
}
