use Rattle.std.proofs.Common.{◌∙◌, ap}
use Rattle.memory_host.specs.Effects.{disk_after}
use Rattle.memory_host.proofs.Replayed.{disk_more, image_more}
use Rattle.memory_host.proofs.replay.replayed.Goals as goal

pub loop-effect-preserved : goal.loop-effect-preserved
loop-effect-preserved c =
    let so_far = c.loop-effect.invariant in
    let disk = c.in_ok-disk-2.ensures ∙ ap (λ l. disk_after l c.effect-item.result) c.deref-in-loop-effect-2.ensures.value in
    let image = rw (c.deref.ensures.value, c.deref-in-loop-effect.ensures.value) at c.in_ok-image-2.ensures in
    record {
      disk = disk_more c.args.pick c.args.start.now c.args.effects.now c.loop-effect.effect-index c.effect-item.result c.loop-effect-test.true c.effect-item.is c.loop-effect.disk.items c.in_ok-disk-2.disk.items so_far.disk disk;
      image = image_more c.args.pick c.args.start.now c.args.effects.now c.loop-effect.effect-index c.effect-item.result c.loop-effect-test.true c.effect-item.is c.loop-effect.disk.items c.loop-effect.image.items c.in_ok-image-2.image.items so_far.disk so_far.image image;
    }
