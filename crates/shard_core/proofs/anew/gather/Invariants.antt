use Rattle.std.proofs.Common.{◌≡◌, ◌+◌, ◌≤◌, ◌++◌, ℕ, length, take}
use Rattle.std.specs.Prelude.{slice_get}
use Rattle.shard_core.specs.Turns.{AreFew}
use Rattle.shard_core.proofs.Gathered.{stocks_of}
use Rattle.shard_core.proofs.anew.gather.Given as goal

abbrev pub invariant-loop-k : goal.invariant-loop-k
invariant-loop-k l = record {
  all : l.all.symbols ≡ l.initial.all.symbols ++ stocks_of (take l.k l.initial.parts);
  spare : l.initial.all.spare ≤ l.all.spare + length (stocks_of (take l.k l.initial.parts));
  later : (j : ℕ) → l.k ≤ j → slice_get l.parts j ≡ slice_get l.initial.parts j;
  parts : length l.parts ≡ length l.initial.parts;
  few : AreFew l.parts;
}
