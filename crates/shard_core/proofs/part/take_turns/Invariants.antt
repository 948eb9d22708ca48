use Rattle.std.proofs.Common.{◌≤◌, length, take}
use Rattle.rulebook.specs.Admission.{most_names}
use Rattle.shard_core.specs.Turns.{Tells, noted}
use Rattle.shard_core.proofs.part.take_turns.Given as goal

abbrev pub invariant-loop-input : goal.invariant-loop-input
invariant-loop-input l = record {
  tells : Tells l.ids.start l.ids.is_last (noted (take l.input l.xs) (take l.input l.turns)) l.initial.section.symbols l.section.symbols l.told.items;
  few : length l.section.symbols ≤ most_names;
}
