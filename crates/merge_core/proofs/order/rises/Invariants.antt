use Rattle.std.proofs.Common.{◌≤◌, take}
use Rattle.std.specs.Prelude.{All}
use Rattle.std.specs.List.Sorted.{IsNonDecreasingBy}
use Rattle.merge_core.proofs.order.rises.Given as goal

abbrev pub invariant-loop-message : goal.invariant-loop-message
invariant-loop-message l = record {
  rises : IsNonDecreasingBy (λ message. message.input) (take l.message-index l.messages);
  last : All (λ message. message.input ≤ l.last) (take l.message-index l.messages);
}
