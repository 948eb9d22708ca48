use Rattle.std.proofs.Common.{◌≡◌, ◌≤◌, List, ℕ, IfSome}
use Rattle.picture_core.specs.Reads.{HasRead}
use Rattle.picture_core.proofs.reading.read_days.Given as goal

-- so many lines of the input were read, with no more days, and no read failed
abbrev pub invariant-loop-before : goal.invariant-loop-before
invariant-loop-before g l =
    (IfSome (g.R.LineSource.remaining l.initial.reader) (λ (text : List ℕ). HasRead l.wanted text (g.R.LineSource.remaining l.reader) l.before l.days))
    × (g.R.LineSource.failures l.reader ≡ g.R.LineSource.failures l.initial.reader)
    × (l.days.count ≤ l.before)
