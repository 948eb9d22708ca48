use Rattle.std.proofs.Common.{◌+◌, ◌≤◌, length, vec_len, vec_capacity}
use Rattle.merge_core.specs.Weaving.{all_of, nows}
use Rattle.merge_core.proofs.Woven.{Woven}
use Rattle.merge_core.proofs.order.weave.Given as goal

abbrev pub invariant-loop-nth : goal.invariant-loop-nth
invariant-loop-nth l = record {
  woven : Woven l.first (nows l.initial.lists) l.lists l.initial.out.items l.out.items;
  room : vec_len l.out + length (all_of l.lists) ≤ vec_capacity l.out;
}

abbrev pub decreases-loop-nth : goal.decreases-loop-nth
decreases-loop-nth l = length (all_of l.lists)
