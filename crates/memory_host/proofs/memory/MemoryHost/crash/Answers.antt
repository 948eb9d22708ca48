use Rattle.std.proofs.Common.{◌≡◌, refl}
use Rattle.memory_host.proofs.Remembered.{may}
use Rattle.memory_host.proofs.Replayed.{picked}
use Rattle.memory_host.proofs.memory.MemoryHost.crash.Goals as goal

pub returns-in_err-image-clause-left : goal.returns-in_err-image-clause-left
returns-in_err-image-clause-left c =
    let host = c.args.self.now in
    may _ _ _ _ host.effects.items _ _ _ _ _ (picked c.args.pick (λ image. image ≡ host.start.items) host.start.items host.start.items host.effects.items refl)

pub returns-clause-left : goal.returns-clause-left
returns-clause-left c =
    let host = c.args.self.now in
    may _ _ _ _ host.effects.items _ _ _ _ _ (picked c.args.pick (λ image. image ≡ host.start.items) host.start.items host.start.items host.effects.items refl)
