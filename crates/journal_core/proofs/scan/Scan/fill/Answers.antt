use Rattle.std.proofs.Common.{◌≡◌, ℕ, ◌++◌, List, drop, sym, ap, subst}
use Rattle.host_core.proofs.Chains.{reads_nothing}
use Rattle.journal_core.specs.Scan.{ScanState, HasRead}
use Rattle.journal_core.proofs.ScanLemmas.{reads_on, read_at}
use Rattle.journal_core.proofs.scan.Scan.fill.Goals as goal

pub returns-in_err-read-clause-reads : goal.returns-in_err-read-clause-reads
returns-in_err-read-clause-reads g c batches disk known read =
    let old = c.args.self.now in
    let ahead = c.read.new.self in
    subst (λ (s : ScanState). HasRead s batches disk) (sym (ap (λ (s : ScanState). record s { ahead = ahead }) c.self.view_is))
    (reads_on old ahead (drop old.gate disk) batches disk read (ap (λ (l : List ℕ). l ++ drop old.gate disk) (sym c.in_err-read.ensures.none)))

pub returns-in_ok-read-clause-reads : goal.returns-in_ok-read-clause-reads
returns-in_ok-read-clause-reads g c batches disk known read =
    let old = c.args.self.now in
    let ahead = c.read.new.self in
    let gates : c.self.inside.gate ≡ old.gate = ap (λ (s : ScanState). s.gate) c.self.view_is in
    subst (λ (s : ScanState). HasRead s batches disk) (sym (ap (λ (s : ScanState). record s { ahead = ahead }) c.self.view_is))
    (reads_on old ahead _ batches disk read (read_at _ old.gate c.self.inside.gate disk ahead gates (c.in_ok-read.ensures.bytes disk known)))

pub returns-else-bytes-min-clause-keeps : goal.returns-else-bytes-min-clause-keeps
returns-else-bytes-min-clause-keeps g c = reads_nothing (g.H.Host.outside c.args.host.now) (g.met.H.Host.sent_now c.args.host.now)
