use Rattle.std.proofs.Common.{map, take}
use Rattle.auction_core.specs.Lines.{line_of_row}
use Rattle.auction_core.specs.Texts.{text_of_lines}
use Rattle.auction_core.specs.InternalSending.{Appends}
use Rattle.auction_core.proofs.Appending.{made}
use Rattle.auction_core.proofs.sending.append_rows.Given as goal

abbrev pub invariant-loop-row : goal.invariant-loop-row
invariant-loop-row g l = record {
  appends : Appends (text_of_lines (map line_of_row (take l.row-index l.rows))) made l.initial.outbox l.outbox (g.H.Host.outside l.initial.host) (g.H.Host.outside l.host);
}
