use Rattle.std.proofs.Common.{◌≡◌, ◌*◌, ◌≤◌, take, sum_by}
use Rattle.window_core.proofs.queue.total.Given as goal

abbrev pub invariant-loop-deal : goal.invariant-loop-deal
invariant-loop-deal l =
    record { value : l.total ≡ sum_by (λ d. d.price) (take l.deal-index l.deals); least : l.deal-index ≤ l.total; most : l.total ≤ 99999999999 * l.deal-index }
