use Rattle.std.proofs.Common.{◌≡◌, List, ℕ, IfSome}
use Rattle.cross_chart.specs.Reads.{HasRead}
use Rattle.cross_chart.proofs.input.read_cross.Given as goal

-- so many lines of the input were read, and no read failed
abbrev pub invariant-loop-before : goal.invariant-loop-before
invariant-loop-before g l =
    (IfSome (g.R.LineSource.remaining l.initial.reader) (λ (text : List ℕ). HasRead text (g.R.LineSource.remaining l.reader) l.before l.sketch))
    × (g.R.LineSource.failures l.reader ≡ g.R.LineSource.failures l.initial.reader)
