use Rattle.std.proofs.Common.{◌≡◌, ◌++◌, drop}
use Rattle.std.specs.String.{string_bytes}
use Rattle.cross_chart.specs.Curves.{corners}
use Rattle.cross_chart.proofs.curve.corners.Given as goal

-- the rows before this one are drawn, and those from it on follow
abbrev pub invariant-loop-at : goal.invariant-loop-at
invariant-loop-at l = string_bytes l.text ++ corners l.frame l.curve l.at (drop l.at l.rows) ≡ corners l.frame l.curve 0 l.rows
