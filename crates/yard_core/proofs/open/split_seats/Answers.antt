use Rattle.std.proofs.Common.{◌≡◌, ℕ, ◌+◌, ◌-◌, ◌<◌, ap, ◌∙◌, sym, subst, arith, All}
use Rattle.std.proofs.lemmas.List.Elements.{All-push}
use Rattle.yard_core.specs.declared.yard.YardSeat.{YardSeat}
use Rattle.yard_core.specs.Seats.{seats_of, IsFresh}
use Rattle.yard_core.proofs.SeatSteps.{splits}
use Rattle.yard_core.proofs.SplitViews.{fresh_of, left_of, right_of}
use Rattle.yard_core.proofs.open.split_seats.Goals as goal

pub split_seat-seat-requires : goal.split_seat-seat-requires
split_seat-seat-requires g c =
    let inv = c.loop-number.invariant in
    let seats : c.loop-number.first.me.0.seats ≡ c.args.seats + 1 - c.loop-number.number = ap (λ m. m.0.seats) inv.1 in
    let two : 1 < c.loop-number.first.me.0.seats = omega (arith, c.loop-number-test.true) in
    (inv.0, omega (arith, c.args.yard.now.sized.0), splits _ _ _ _ _ _ _ two (ap (λ m. m.0.done) inv.1))

pub loop-number-preserved : goal.loop-number-preserved
loop-number-preserved g c =
    let inv = c.loop-number.invariant in
    let cut = c.split_seat-seat.ensures in
    let pushed = c.push_reserved.ensures in
    let origin = g.J.Job.origin_of in
    let yard = c.args.yard.now in
    let n : ℕ = c.args.seats + 1 - c.loop-number.number in
    let one_less : n - 1 ≡ c.args.seats + 1 - (c.loop-number.number + 1) = omega arith in
    let new : YardSeat g.row.J.Denot = record { number = c.loop-number.number; seat = c.split_seat-seat.result } in
    let fresh : IsFresh origin yard new = fresh_of origin yard new (cut.3 ∙ inv.0) (right_of c.loop-number.first.me c.split_seat-seat.result.me n c.args.seats (seats_of yard) _ cut.4 inv.1 c.requires.seats.1) in (
      cut.0 ∙ inv.0,
      left_of c.loop-number.first.me c.split_seat-seat.new.seat.me n _ c.args.seats _ cut.2 inv.1 one_less,
      omega (arith, pushed.len, inv.2),
      omega (arith, pushed.capacity, inv.3),
      subst (λ xs. All (IsFresh origin yard) xs) (sym pushed.items) (All-push (IsFresh origin yard) c.loop-number.row.items new inv.4 fresh),
    )
