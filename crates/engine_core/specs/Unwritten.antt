-- A session that accepts no record writes nothing.
use Rattle.std.specs.Prelude.{◌≡◌, ℕ, List}
use Rattle.host_core.specs.Outside.{Outside, MayLeave, Elapses}
use Rattle.engine_core.specs.Sessions.{Start, held_after}

-- a read of the disk gives what it gave, and each stop leaves an image that one before might have left
pub record WritesNothing (old new : Outside) : Type 0 where
  pub disk : new.disk ≡ old.disk
  pub moments : Elapses old new (λ image bytes. MayLeave old image)

-- no record of these frames is accepted
abbrev pub AcceptsNone : Start → List (List ℕ) → Type 0
AcceptsNone start bodies = held_after start bodies ≡ start.held
