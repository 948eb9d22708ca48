use Rattle.std.proofs.Common.{◌≤◌, take}
use Rattle.window_core.specs.Deals.{live}
use Rattle.window_core.specs.Tallies.{Tallies}
use Rattle.window_core.proofs.tally.Tally.of.Given as goal

abbrev pub invariant-loop-deal : goal.invariant-loop-deal
invariant-loop-deal l = record { tallies : Tallies l.sum l.count (live l.t (take l.deal-index l.deals)); few : l.count ≤ l.deal-index }
