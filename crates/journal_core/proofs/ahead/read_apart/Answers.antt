use Rattle.host_core.proofs.Chains.{reads_nothing}
use Rattle.journal_core.proofs.ahead.read_apart.Goals as goal

pub returns-in_err-bytes-clause-keeps : goal.returns-in_err-bytes-clause-keeps
returns-in_err-bytes-clause-keeps g c = reads_nothing (g.H.Host.outside c.args.host.now) (g.met.H.Host.sent_now c.args.host.now)
