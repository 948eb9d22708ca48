use Rattle.std.proofs.Common.{◌≡◌, ◌+◌, ◌++◌, ◌<◌, ◌≤◌, length, drop}
use Rattle.rulebook.specs.Admission.{most_names}
use Rattle.shard_core.specs.Turns.{AreFew}
use Rattle.shard_core.proofs.Gathered.{stocks_of}
use Rattle.shard_core.proofs.anew.deal.Given as goal

abbrev pub invariant-loop-k : goal.invariant-loop-k
invariant-loop-k l = record {
  all : l.left.symbols ++ stocks_of (drop (l.k + 1) l.parts) ≡ l.initial.left.symbols;
  index : l.k < length l.parts;
  parts : length l.parts ≡ length l.initial.parts;
  stocks : length l.left.symbols ≤ most_names;
  few : AreFew l.parts;
}

abbrev pub decreases-loop-k : goal.decreases-loop-k
decreases-loop-k l = l.k
