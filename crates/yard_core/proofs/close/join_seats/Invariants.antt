use Rattle.std.proofs.Common.{◌≡◌, ◌<◌, [], All, vec_len, ◌+◌, length}
use Rattle.yard_core.specs.Seats.{seats_of, table_of, view_of, hand_of, IsDoneAt}
use Rattle.yard_core.proofs.close.join_seats.Given as goal

abbrev pub invariant-loop-other : goal.invariant-loop-other
invariant-loop-other g l = (l.last.seat.table_id ≡ table_of l.yard) × (hand_of l.last ≡ []) × ((view_of l.last).claimed ≡ []) × ((view_of l.last).done ≡ (view_of l.last).seats) × (0 < (view_of l.last).seats)
    × ((view_of l.last).seats + vec_len l.seats ≡ seats_of l.yard) × ((view_of l.last).asked ≡ seats_of l.yard) × All (IsDoneAt g.J.Job.origin_of l.yard) l.seats.items

abbrev pub decreases-loop-other : goal.decreases-loop-other
decreases-loop-other g l = length l.seats.items
