use Rattle.std.proofs.Common.{◌≡◌, ◌++◌, drop}
use Rattle.std.specs.String.{string_bytes}
use Rattle.picture_core.specs.Market.{row_names}
use Rattle.picture_core.proofs.market.put_row_names.Given as goal

-- the names before this one are written, and those from it on follow
abbrev pub invariant-loop-at : goal.invariant-loop-at
invariant-loop-at l =
    string_bytes l.text ++ row_names l.day l.at (drop l.at l.rows) ≡ string_bytes l.initial.text ++ row_names l.day 0 l.rows
