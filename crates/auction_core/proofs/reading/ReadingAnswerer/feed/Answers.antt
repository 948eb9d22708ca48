use Rattle.std.proofs.Common.{◌≡◌, ℕ, ◌+◌, ◌++◌, List, length, take, drop, sym, ap, ◌∙◌}
use Rattle.std.proofs.Math.Seq.{take-add}
use Rattle.stream_core.proofs.Sending.{sends_none}
use Rattle.auction_core.specs.InternalReading.{expects_none}
use Rattle.auction_core.proofs.Readings.{reads_same}
use Rattle.auction_core.proofs.reading.ReadingAnswerer.feed.Goals as goal

-- the bytes that were read, and the piece behind them
joined : (count : ℕ) (input piece : List ℕ) → take (length piece) (drop count input) ≡ piece → take count input ++ piece ≡ take (count + length piece) input
joined count input piece is = ap (λ (b : List ℕ). take count input ++ b) (sym is) ∙ sym (take-add count (length piece) input)

pub returns-clause-reads : goal.returns-clause-reads
returns-clause-reads g c given count knows next = record {
  reads = reads_same (joined count given.input c.args.piece.now next.is) (c.in_ok-read.ensures.reads (take count given.input) knows.reads);
  none = knows.none;
  unsent = knows.unsent;
}

pub returns-clause-runs : goal.returns-clause-runs
returns-clause-runs g c given count knows next = sends_none (g.H.Host.outside c.args.host.now) (g.met.H.Host.sent_now c.args.host.now) _ _ (expects_none knows)

pub returns-clause-leaves : goal.returns-clause-leaves
returns-clause-leaves g c given count knows next = sends_none (g.H.Host.outside c.args.host.now) (g.met.H.Host.sent_now c.args.host.now) _ _ (expects_none knows)

pub returns-in_err-read-clause-leaves : goal.returns-in_err-read-clause-leaves
returns-in_err-read-clause-leaves g c given count knows next = sends_none (g.H.Host.outside c.args.host.now) (g.met.H.Host.sent_now c.args.host.now) _ _ (expects_none knows)
