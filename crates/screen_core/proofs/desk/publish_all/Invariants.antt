use Rattle.std.proofs.Common.{◌≡◌, drop}
use Rattle.board_core.specs.Entries.{entries_from}
use Rattle.board_core.specs.Seats.{symbols_of, entries_of, IsWriterOf}
use Rattle.screen_core.specs.InternalDesk.{CanTakeAll, said_in}
use Rattle.screen_core.proofs.desk.publish_all.Given as goal

abbrev pub invariant-loop-stamped : goal.invariant-loop-stamped
invariant-loop-stamped l = record {
  writer : IsWriterOf l.board l.writer;
  can : CanTakeAll (symbols_of l.board) (entries_of l.writer) (said_in (drop l.stamped-index l.messages));
  same : entries_from (entries_of l.writer) (said_in (drop l.stamped-index l.messages)) ≡ entries_from (entries_of l.initial.writer) (said_in l.messages);
}
