use Rattle.std.proofs.Common.{◌≡◌, ◌+◌, vec_len, ap, ◌∙◌, arith}
use Rattle.std.specs.Prelude.{Some}
use Rattle.std.proofs.lemmas.List.Elements.{All-pop}
use Rattle.yard_core.specs.Seats.{IsDoneAt}
use Rattle.yard_core.specs.Views.{IsLast}
use Rattle.yard_core.proofs.SeatSteps.{joins}
use Rattle.yard_core.proofs.LastSeat.{seat_counts}
use Rattle.yard_core.proofs.SplitViews.{join_of}
use Rattle.yard_core.proofs.close.join_seats.Goals as goal

pub join_seat-requires : goal.join_seat-requires
join_seat-requires g c =
    let inv = c.loop-other.invariant in
    let popped = All-pop (IsDoneAt g.J.Job.origin_of c.args.yard.now) _ _ (Some c.in-Some.other) c.in-Some.ensures.items inv.7 in
    let its = popped.1 in
    (inv.0, its.seat.table, its.done.0, omega (arith, c.args.yard.now.sized.0), joins _ _ _ _ _ _ _ _ _ inv.4)

pub loop-other-preserved : goal.loop-other-preserved
loop-other-preserved g c =
    let inv = c.loop-other.invariant in
    let popped = All-pop (IsDoneAt g.J.Job.origin_of c.args.yard.now) _ _ (Some c.in-Some.other) c.in-Some.ensures.items inv.7 in
    let its = popped.1 in
    let is = c.join_seat.ensures in
    let empty = join_of c.loop-other.last.seat.me c.join_seat.new.seat.me c.in-Some.other.seat.me.0 is.2 inv.1 inv.2 its.done.1 in
    let seats : c.join_seat.new.seat.me.0.seats ≡ c.loop-other.last.seat.me.0.seats + c.in-Some.other.seat.me.0.seats = ap (λ m. m.0.seats) is.2 in
    let answers : c.join_seat.new.seat.me.0.done ≡ c.loop-other.last.seat.me.0.done + c.in-Some.other.seat.me.0.done = ap (λ m. m.0.done) is.2 in (
      is.0 ∙ inv.0,
      empty.0,
      empty.1,
      omega (arith, inv.3, its.done.2, its.seat.one),
      omega (arith, inv.4),
      omega (arith, inv.5, its.seat.one, c.in-Some.ensures.len),
      ap (λ m. m.0.asked) is.2 ∙ inv.6,
      popped.0,
    )

pub load-requires : goal.load-requires
load-requires g c =
    let inv = c.loop-other.invariant in
    let none : vec_len c.loop-other.seats ≡ 0 = c.in_default.ensures.cases.0 in
    let last : IsLast c.loop-other.last.seat.me.0 = record { all = omega (arith, inv.5, inv.6); some_seat = inv.4; done = inv.3; none = inv.2 } in
    (inv.0, omega (arith, c.args.yard.now.sized.0), seat_counts _ _ _ _ _ _ _ _ inv.1 last)
