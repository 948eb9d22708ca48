use Rattle.std.proofs.Common.{◌≡◌, [], take}
use Rattle.std.specs.List.{fold}
use Rattle.picture_core.specs.Market.{with_row}
use Rattle.picture_core.proofs.market.rows_of.Given as goal

-- the rows of the messages so far
abbrev pub invariant-loop-x : goal.invariant-loop-x
invariant-loop-x l = l.rows.items ≡ fold (λ rows x. with_row rows x.message) [] (take l.x-index l.day)
