use Rattle.std.proofs.Common.{◌++◌, ℕ, List, length, refl, sym, ap, ◌∙◌, arith}
use Rattle.host_core.proofs.Chains.{reads_nothing}
use Rattle.journal_core.proofs.ScanLemmas.{read_at}
use Rattle.journal_core.proofs.Walking.{at_place}
use Rattle.journal_core.proofs.walk.Walk.read_from.Goals as goal

pub returns-then-at-end-clause-bytes : goal.returns-then-at-end-clause-bytes
returns-then-at-end-clause-bytes g c disk known h =
    (h.rest, at_place c.args.self disk h c.args.at c.if-start-at.true (omega (arith, c.if-start-at.true, c.if-at-end.true, ap length c.bytes.ensures)) ∙ ap (λ (l : List ℕ). l ++ h.rest) (sym c.skip.ensures))

pub returns-then-at-end-clause-keeps : goal.returns-then-at-end-clause-keeps
returns-then-at-end-clause-keeps g c = reads_nothing (g.H.Host.outside c.args.host.now) (g.met.H.Host.sent_now c.args.host.now)

pub returns-clause-bytes : goal.returns-clause-bytes
returns-clause-bytes g c disk known h = (_, read_at _ c.args.at c.args.at disk c.read.new.self refl (c.in_ok-read.ensures.bytes disk known))
