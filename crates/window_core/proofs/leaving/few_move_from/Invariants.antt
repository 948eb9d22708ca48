use Rattle.std.proofs.Common.{drop}
use Rattle.window_core.proofs.Leaves.{AreLeft}
use Rattle.window_core.proofs.leaving.few_move_from.Given as goal

-- the deals before the index were looked at
abbrev pub invariant-loop-index : goal.invariant-loop-index
invariant-loop-index l = AreLeft l.reference l.from l.begin l.sum l.count l.deals.items (drop l.index l.deals.items)
