use Rattle.std.proofs.Common.{◌≡◌, ℕ, refl, subst, arith}
use Rattle.standby_core.specs.StoodBy.{StoodBy}
use Rattle.standby_core.proofs.StoodBy.{roomless, unopened_stood}
use Rattle.standby_core.proofs.keeping.standby.Goals as goal

-- there was room
pub stand_by-requires-clause-most : goal.stand_by-requires-clause-most
stand_by-requires-clause-most g c = (omega (arith, c.in-Ok.ensures.most, c.requires.batch.0), omega (arith, c.in-Ok.ensures.most, c.requires.batch.1))

pub returns-in-Ok : goal.returns-in-Ok
returns-in-Ok g c =
    subst (λ (batch : ℕ). StoodBy (c.stand_by.new.host ≡ c.args.host.now) batch c.args.bytes c.stand_by.result (g.H.Host.outside c.args.host.now) (g.H.Host.outside c.stand_by.new.host)) c.in-Ok.ensures.most c.stand_by.ensures

-- there was none
pub returns-in-Err : goal.returns-in-Err
returns-in-Err g c =
    unopened_stood _ _ _ _ _ _ (g.met.H.Host.sent_now c.args.host.now) (g.met.H.Host.read_passes c.args.host.now) (roomless _ refl _ (g.met.H.Host.sent_now c.args.host.now))
