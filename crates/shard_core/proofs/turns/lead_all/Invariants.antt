use Rattle.std.proofs.Common.{◌≡◌, ◌≤◌, true, drop, length, take, vec_capacity, vec_len}
use Rattle.shard_core.specs.Turns.{LeadsTo, is_begun, noted}
use Rattle.shard_core.proofs.turns.lead_all.Given as goal

abbrev pub invariant-loop-input : goal.invariant-loop-input
invariant-loop-input l = record {
  leads : LeadsTo (noted (take l.input l.xs) l.turns.items) l.initial.lead l.lead l.market.items;
  count : length l.turns.items ≡ l.input;
  len : vec_len l.turns ≡ l.input;
  room : length l.xs ≤ vec_capacity l.turns;
  begun : is_begun (drop l.input l.xs) l.lead.today ≡ true;
}
