use Rattle.std.proofs.Common.{◌≡◌, ◌≤◌, [], All, vec_len, vec_capacity, ◌+◌, ◌-◌}
use Rattle.yard_core.specs.Views.{view}
use Rattle.yard_core.specs.Seats.{jobs_of, table_of, IsFresh}
use Rattle.yard_core.proofs.open.split_seats.Given as goal

abbrev pub invariant-loop-number : goal.invariant-loop-number
invariant-loop-number g l = (l.first.table_id ≡ table_of l.yard) × (l.first.me ≡ (view [] [] 0 (l.seats + 1 - l.number) l.seats (jobs_of l.yard), []))
    × (vec_len l.row + 1 ≡ l.number) × (l.seats ≤ vec_capacity l.row) × All (IsFresh g.J.Job.origin_of l.yard) l.row.items
