use Rattle.std.proofs.Common.{◌≤◌, filter, take}
use Rattle.window_core.specs.Deals.{is_numbered}
use Rattle.window_core.specs.Tallies.{Tallies}
use Rattle.window_core.proofs.tally.Tally.of_number.Given as goal

abbrev pub invariant-loop-deal : goal.invariant-loop-deal
invariant-loop-deal l = record { tallies : Tallies l.sum l.count (filter (is_numbered l.number) (take l.deal-index l.deals)); few : l.count ≤ l.deal-index }
