use Rattle.std.proofs.Common.{refl, sym, subst}
use Rattle.audit_core.specs.InternalStreams.{IsFresh}
use Rattle.audit_core.proofs.stream.take_room.Goals as goal

pub returns-clause-fresh : goal.returns-clause-fresh
returns-clause-fresh c = subst IsFresh (sym c.new-2.ensures) (record { cutter = refl; represents = c.in_ok-new.ensures.represents; clean = c.in_ok-new.ensures.clean; taken = refl; sound = refl })
