use Rattle.std.proofs.Common.{All, [], ◌∷◌, ap, length, length-append, sym, subst, arith}
use Rattle.std.specs.Prelude.{Some}
use Rattle.std.proofs.lemmas.List.Elements.{All-pop, All-push}
use Rattle.board_core.specs.declared.board.ReaderSeat.{ReaderSeat}
use Rattle.board_core.specs.Seats.{IsFresh, IsReaderOf}
use Rattle.board_core.proofs.tests.ask_each.Goals as goal

pub state-found-requires-clause-seat : goal.state-found-requires-clause-seat
state-found-requires-clause-seat c =
    let popped = All-pop (IsFresh c.args.board.now) _ _ (Some c.in-Some.seat) c.in-Some.ensures.items c.loop-seat.invariant.seats in
    popped.1.seat

pub loop-seat-preserved : goal.loop-seat-preserved
loop-seat-preserved c =
    let board = c.args.board.now in
    let inv = c.loop-seat.invariant in
    let popped = All-pop (IsFresh board) _ _ (Some c.in-Some.seat) c.in-Some.ensures.items inv.seats in
    let pushed = c.push_reserved.ensures in
    let seat : ReaderSeat = c.state-found.new.seat in
    record {
      seats = popped.0;
      asked = subst (λ xs. All (IsReaderOf board) xs) (sym pushed.items) (All-push (IsReaderOf board) c.loop-seat.asked.items seat inv.asked c.state-found.ensures.seat);
      room = omega (arith, inv.room, pushed.len, pushed.capacity, ap length c.in-Some.ensures.items, length-append c.pop.new.self.items (c.in-Some.seat ∷ []), c.loop-seat.seats.ok.0, c.pop.new.self.ok.0);
    }
