use Rattle.std.proofs.Common.{◌≤◌, ◌-◌, length}
use Rattle.yard_core.specs.Seats.{IsSeatOf, IsIdle, given_count, jobs_of}
use Rattle.yard_core.proofs.workers.run_seat.Given as goal

abbrev pub invariant-loop-piece : goal.invariant-loop-piece
invariant-loop-piece g l = IsSeatOf g.J.Job.origin_of l.yard l.seat × IsIdle l.seat × (given_count l.seat ≤ length (jobs_of l.yard))

abbrev pub decreases-loop-piece : goal.decreases-loop-piece
decreases-loop-piece g l = length (jobs_of l.yard) - given_count l.seat
