use Rattle.std.proofs.Common.{◌∙◌}
use Rattle.stream_core.proofs.Asking.{one_ask}
use Rattle.stream_core.proofs.Sending.{sends_stays}
use Rattle.stream_core.proofs.input.exchange.Goals as goal

pub returns-in_default-read_piece-clause-moments : goal.returns-in_default-read_piece-clause-moments
returns-in_default-read_piece-clause-moments g c = λ begin text expects.
    sends_stays (c.flush.ensures.moments begin text expects) ((c.in-Ok.ensures).sent begin text expects) c.read_piece.ensures.reads.keeps.moments

pub returns-clause-moments : goal.returns-clause-moments
returns-clause-moments g c = λ begin text expects.
    sends_stays (c.flush.ensures.moments begin text expects) ((c.in-Ok.ensures).sent begin text expects) c.read_piece.ensures.reads.keeps.moments

pub returns-clause-prompt : goal.returns-clause-prompt
returns-clause-prompt g c = λ text begin input count left there expects.
    one_ask text begin input count (g.H.Host.outside c.flush.new.host) (g.H.Host.outside c.read_piece.new.host) c.flush.ensures.outside.keeps.asks (c.flush.ensures.outside.keeps.input ∙ left) there
    ((c.in-Ok.ensures).sent begin _ expects) (c.in-Ok-read_piece.ensures).reads.asks
