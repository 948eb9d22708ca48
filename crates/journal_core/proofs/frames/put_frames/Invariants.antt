use Rattle.std.proofs.Common.{◌≡◌, ◌+◌, ◌*◌, ◌≤◌, ◌++◌, length, take}
use Rattle.std.specs.Prelude.{All}
use Rattle.wire_in.specs.Laws.{IsSound}
use Rattle.journal_core.specs.Layout.{frames_of}
use Rattle.journal_core.proofs.frames.put_frames.Given as goal

abbrev pub invariant-loop-x : goal.invariant-loop-x
invariant-loop-x l = record {
  end : l.end ≡ length (frames_of (take l.x-index l.batch)) + 4;
  most : l.end ≤ 36 * l.x-index + 4;
  len : length l.into ≡ 2309;
  bytes : take l.end l.into ≡ take 4 l.initial.into ++ frames_of (take l.x-index l.batch);
  sound : All IsSound (take l.x-index l.batch);
}
