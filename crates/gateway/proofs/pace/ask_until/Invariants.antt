use Rattle.board_core.specs.Seats.{IsReaderOf}
use Rattle.gateway.proofs.pace.ask_until.Given as goal

abbrev pub invariant-loop-asked : goal.invariant-loop-asked
invariant-loop-asked l = IsReaderOf l.board l.seat
