use Rattle.std.proofs.Common.{◌<◌, arith}
use Rattle.yard_core.proofs.ClaimStep.{seat_claims}
use Rattle.yard_core.proofs.yard.Yard.claim.Goals as goal

pub fetch_add-found-requires : goal.fetch_add-found-requires
fetch_add-found-requires g c =
    let seat = c.requires.seat in
    let some_seat : 0 < c.args.seat.now.seat.me.0.seats = omega (arith, seat.one) in
    let sized = c.args.self.now.sized in
    (seat.table, omega (arith, sized.0), seat_claims _ _ _ _ _ _ _ _ some_seat c.requires.idle.2 c.requires.idle.0)
