use Rattle.std.proofs.Common.{◌≡◌, ◌++◌, drop}
use Rattle.picture_core.specs.Stops.{stops_of}
use Rattle.picture_core.proofs.stop.stops_of.Given as goal

-- those that the messages before this one begin are there, and those of the messages from it on follow
abbrev pub invariant-loop-at : goal.invariant-loop-at
invariant-loop-at l = l.stops.items ++ stops_of (drop l.at l.messages) ≡ stops_of l.messages
