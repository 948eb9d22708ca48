use Rattle.std.proofs.Common.{◌≡◌, take}
use Rattle.cross_chart.specs.Axes.{extent_of}
use Rattle.cross_chart.proofs.axis.extent_of.Given as goal

-- the extent of the rows that were seen
abbrev pub invariant-loop-row : goal.invariant-loop-row
invariant-loop-row l = l.extent ≡ extent_of (take l.row-index l.rows)
