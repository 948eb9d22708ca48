use Rattle.std.proofs.Common.{◌≡◌, take}
use Rattle.memory_host.specs.Effects.{disk_of, image_of}
use Rattle.memory_host.proofs.replay.replayed.Given as goal

abbrev pub invariant-loop-effect : goal.invariant-loop-effect
invariant-loop-effect l = record {
  disk : l.disk.items ≡ disk_of l.start (take l.effect-index l.effects);
  image : l.image.items ≡ image_of l.pick l.start l.start (take l.effect-index l.effects);
}
