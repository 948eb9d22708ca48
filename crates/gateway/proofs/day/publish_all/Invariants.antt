use Rattle.std.proofs.Common.{◌≡◌, take}
use Rattle.board_core.specs.Entries.{board_entries}
use Rattle.board_core.specs.Seats.{entries_of, IsWriterOf}
use Rattle.gateway.proofs.day.publish_all.Given as goal

abbrev pub invariant-loop-message : goal.invariant-loop-message
invariant-loop-message l = record { writer : IsWriterOf l.board l.writer; entries : entries_of l.writer ≡ board_entries (take l.message-index l.messages) }
