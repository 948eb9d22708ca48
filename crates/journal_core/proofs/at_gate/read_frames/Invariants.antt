use Rattle.std.proofs.Common.{◌≡◌, ◌≤◌, ◌++◌, length}
use Rattle.std.specs.Prelude.{All}
use Rattle.wire_in.specs.Laws.{IsSound}
use Rattle.journal_core.specs.Layout.{frames_of}
use Rattle.journal_core.proofs.at_gate.read_frames.Given as goal

abbrev pub invariant-loop-rest : goal.invariant-loop-rest
invariant-loop-rest l = record {
  read : l.frames ≡ frames_of l.into ++ l.rest;
  sound : All IsSound l.into;
  most : length l.into ≤ 64;
}

abbrev pub decreases-loop-rest : goal.decreases-loop-rest
decreases-loop-rest l = length l.rest
