use Rattle.std.proofs.Common.{◌≡◌, ◌++◌, drop}
use Rattle.std.specs.String.{string_bytes}
use Rattle.picture_core.specs.Tables.{cells}
use Rattle.picture_core.proofs.table.put_cells.Given as goal

-- the cells before this one are written, and those from it on follow
abbrev pub invariant-loop-at : goal.invariant-loop-at
invariant-loop-at l =
    string_bytes l.text ++ cells l.rows l.at (drop l.at l.stops) ≡ string_bytes l.initial.text ++ cells l.rows 0 l.stops
