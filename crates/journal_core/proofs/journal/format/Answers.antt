use Rattle.std.proofs.Common.{ℕ, List, drop, subst, sym, ◌∙◌}
use Rattle.std.specs.Prelude.{[]}
use Rattle.host_core.proofs.Known.{mapped}
use Rattle.journal_core.specs.Layout.{Holds}
use Rattle.journal_core.proofs.Images.{fresh}
use Rattle.journal_core.proofs.journal.format.Goals as goal

pub returns-clause-stored : goal.returns-clause-stored
returns-clause-stored g c disk is =
    let from = mapped _ _ disk (sym (rw c.fresh.ensures at c.in_ok-store.ensures.written) ∙ is) in
    subst (λ (image : List ℕ). Holds image c.args.capacity []) from.2 (record { gate = 16; held = fresh c.args.capacity (drop 17 from.0) c.requires })
