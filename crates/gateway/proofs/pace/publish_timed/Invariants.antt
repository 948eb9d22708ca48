use Rattle.board_core.specs.Entries.{VersionsAtMost}
use Rattle.board_core.specs.Seats.{entries_of, IsWriterOf}
use Rattle.gateway.proofs.pace.publish_timed.Given as goal

abbrev pub invariant-loop-number : goal.invariant-loop-number
invariant-loop-number g l = record { writer : IsWriterOf l.board l.writer; room : VersionsAtMost l.number (entries_of l.writer) 0 }
