use Rattle.std.proofs.Common.{map, take}
use Rattle.std.specs.Prelude.{codes}
use Rattle.auction_core.specs.Lines.{number_line}
use Rattle.auction_core.specs.Texts.{text_of_lines}
use Rattle.auction_core.specs.InternalSending.{Appends}
use Rattle.auction_core.proofs.Appending.{made}
use Rattle.auction_core.proofs.sending.append_fills.Given as goal

abbrev pub invariant-loop-fill : goal.invariant-loop-fill
invariant-loop-fill g l = record {
  appends : Appends (text_of_lines (map (number_line (codes "fill")) (take l.fill-index l.fills))) made l.initial.outbox l.outbox (g.H.Host.outside l.initial.host) (g.H.Host.outside l.host);
}
