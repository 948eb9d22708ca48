use Rattle.std.proofs.Common.{◌≡◌, ℕ, ◌+◌, ◌≤◌, List, true, length}
use Rattle.wire_in.specs.declared.record.Record.{Record}
use Rattle.shard_core.specs.Block.{AreAdmissible, Represents}
use Rattle.merge_core.specs.Merged.{GoesOn}
use Rattle.shard_core.proofs.PieceByPiece.{Remains}
use Rattle.shard_core.proofs.pieces.pieces.Given as goal

abbrev pub invariant-loop-rest : goal.invariant-loop-rest
invariant-loop-rest g l = record {
  remains : (capacity : ℕ) (applied : List Record) → Represents l.initial.shards applied → AreAdmissible capacity applied l.xs → Remains capacity applied l.xs l.initial.out.items l.rest l.first l.shards l.out.items;
  few : l.first + length l.rest ≤ 65536;
  behind : GoesOn l.initial.out.items l.out.items;
  working : l.shards.working ≡ true;
  parts : length l.shards.parts ≡ length l.initial.shards.parts;
}

abbrev pub decreases-loop-rest : goal.decreases-loop-rest
decreases-loop-rest g l = length l.rest
