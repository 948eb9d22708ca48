use Rattle.stream_core.proofs.Sending.{sends_none}
use Rattle.text_core.proofs.translator.Translator.close.Goals as goal

pub returns-in-Print-clause-moments : goal.returns-in-Print-clause-moments
returns-in-Print-clause-moments g c = λ begin read reads. sends_none (g.H.Host.outside c.args.host.now) (g.met.H.Host.sent_now c.args.host.now) _ _ reads.answers.pending_is

pub returns-in-Pack-clause-moments : goal.returns-in-Pack-clause-moments
returns-in-Pack-clause-moments g c = rw c.in-Pack.is c.close_line.ensures.moments
