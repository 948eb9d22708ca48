use Rattle.std.proofs.Common.{◌≤◌, ◌+◌, All, length, vec_capacity, vec_len}
use Rattle.board_core.specs.Seats.{IsFresh, IsReaderOf}
use Rattle.board_core.proofs.tests.ask_each.Given as goal

abbrev pub invariant-loop-seat : goal.invariant-loop-seat
invariant-loop-seat l = record {
  seats : All (IsFresh l.board) l.seats.items;
  asked : All (IsReaderOf l.board) l.asked.items;
  room : vec_len l.seats + vec_len l.asked ≤ vec_capacity l.asked;
}

abbrev pub decreases-loop-seat : goal.decreases-loop-seat
decreases-loop-seat l = length l.seats.items
