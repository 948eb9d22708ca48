use Rattle.std.proofs.Common.{◌≡◌, ◌++◌, drop}
use Rattle.std.specs.String.{string_bytes}
use Rattle.picture_core.specs.Market.{marks}
use Rattle.picture_core.proofs.market.put_marks.Given as goal

-- the messages before this one are drawn, and those from it on follow
abbrev pub invariant-loop-at : goal.invariant-loop-at
invariant-loop-at l =
    string_bytes l.text ++ marks l.rows l.last (drop l.at l.day) ≡ string_bytes l.initial.text ++ marks l.rows l.last l.day
