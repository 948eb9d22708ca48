use Rattle.std.proofs.Common.{sym, ◌∙◌}
use Rattle.symbol_core.proofs.Cancels.{leaves-all, leaves-cancelled}
use Rattle.symbol_core.proofs.ingest.drop_cancelled.Goals as goal

pub returns-in_default-clause-items : goal.returns-in_default-clause-items
returns-in_default-clause-items c = sym (leaves-all c.args.id c.args.x.now c.args.deals.now.deals (sym c.in_default.ensures))

pub returns-in-Some-clause-items : goal.returns-in-Some-clause-items
returns-in-Some-clause-items c = c.cancel.ensures.deals ∙ leaves-cancelled c.args.id c.args.x.now c.in-Some.number c.args.deals.now.deals (sym c.in-Some.ensures)
