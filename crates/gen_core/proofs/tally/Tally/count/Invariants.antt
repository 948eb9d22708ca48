use Rattle.std.proofs.Common.{◌≡◌, ◌+◌, ◌++◌, List, take}
use Rattle.wire_out.specs.declared.message.Stamped.{Stamped}
use Rattle.gen_core.specs.Tallies.{tally_of}
use Rattle.gen_core.specs.SummaryLines.{IsSum}
use Rattle.gen_core.proofs.tally.Tally.count.Given as goal

abbrev pub invariant-loop-stamped : goal.invariant-loop-stamped
invariant-loop-stamped l = record {
  counts : (before : List Stamped) → l.initial.self ≡ tally_of before → l.self ≡ tally_of (before ++ take l.stamped-index l.messages);
  sum : IsSum l.self;
  all : l.self.messages ≡ l.initial.self.messages + l.stamped-index;
}
