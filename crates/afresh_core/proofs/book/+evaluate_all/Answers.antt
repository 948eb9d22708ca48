use Rattle.std.proofs.Common.{rules}
use Rattle.rulebook.specs.Book.{named}
use Rattle.rulebook.specs.History.{records}
use Rattle.afresh_core.proofs.Timely.{timely_is, timely_evaluate}
use Rattle.afresh_core.proofs.book.+evaluate_all.Goals as goal

pub evaluate_all-requires : goal.evaluate_all-requires
evaluate_all-requires t c =
    (search rules, timely_is _ c.in_ok-evaluated.evaluated.items c.in_ok-evaluated.ensures (timely_evaluate c.args.x.now (named (records c.args.h.items) c.in-Some.id.now) c.args.h.items c.requires))
