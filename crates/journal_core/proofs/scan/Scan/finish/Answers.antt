use Rattle.std.proofs.Common.{◌≡◌, true, sym, ap, subst, ◌∙◌}
use Rattle.journal_core.specs.Journal.{JournalState, Represents, IsOfDisk}
use Rattle.journal_core.proofs.Finishing.{finished, finished_holds, finished_of_disk}
use Rattle.journal_core.proofs.scan.Scan.finish.Goals as goal

pub returns-clause-keeps : goal.returns-clause-keeps
returns-clause-keeps c batches disk capacity records read holds =
    let s = c.self.inside in
    let rolls : c.at.result ≡ finished c.args.self =
    c.at.ensures ∙ (λ i. record { capacity = s.capacity; count = s.count; gate = s.gate; rolled = c.is_rolled-rolled.ensures i; whole = true }) ∙ ap finished c.self.view_is in
    subst (λ (j : JournalState). Represents j records disk) (sym rolls) (finished_holds c.args.self batches disk capacity records c.requires read holds)

pub returns-clause-of_disk : goal.returns-clause-of_disk
returns-clause-of_disk c known of_disk =
    let s = c.self.inside in
    let rolls : c.at.result ≡ finished c.args.self =
    c.at.ensures ∙ (λ i. record { capacity = s.capacity; count = s.count; gate = s.gate; rolled = c.is_rolled-rolled.ensures i; whole = true }) ∙ ap finished c.self.view_is in
    subst (λ (j : JournalState). IsOfDisk j known) (sym rolls) (finished_of_disk c.args.self known c.requires of_disk)
