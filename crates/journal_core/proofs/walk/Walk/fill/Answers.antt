use Rattle.std.proofs.Common.{ℕ, ◌++◌, List, drop, refl, sym, ap}
use Rattle.host_core.proofs.Chains.{reads_nothing}
use Rattle.journal_core.proofs.ScanLemmas.{read_at}
use Rattle.journal_core.proofs.Walking.{reads_ahead}
use Rattle.journal_core.proofs.walk.Walk.fill.Goals as goal

pub returns-in_err-read-clause-walked : goal.returns-in_err-read-clause-walked
returns-in_err-read-clause-walked g c disk known h =
    let gate = c.args.self.now.gate in
    reads_ahead c.args.self.now gate c.read.new.self (drop gate disk) disk h (ap (λ (l : List ℕ). l ++ drop gate disk) (sym c.in_err-read.ensures.none))

pub returns-in_ok-read-clause-walked : goal.returns-in_ok-read-clause-walked
returns-in_ok-read-clause-walked g c disk known h =
    let gate = c.args.self.now.gate in
    reads_ahead c.args.self.now gate c.read.new.self _ disk h (read_at _ gate gate disk c.read.new.self refl (c.in_ok-read.ensures.bytes disk known))

pub returns-else-end-min-clause-keeps : goal.returns-else-end-min-clause-keeps
returns-else-end-min-clause-keeps g c = reads_nothing (g.H.Host.outside c.args.host.now) (g.met.H.Host.sent_now c.args.host.now)
