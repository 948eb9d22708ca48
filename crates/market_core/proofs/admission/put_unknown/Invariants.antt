use Rattle.std.proofs.Common.{◌≡◌, ◌≤◌, replicate, vec_len, vec_capacity}
use Rattle.market_core.proofs.admission.put_unknown.Given as goal

abbrev pub invariant-loop-name : goal.invariant-loop-name
invariant-loop-name l = record {
  numbers : l.listed.items ≡ replicate l._name 0;
  len : vec_len l.listed ≡ l._name;
  room : vec_capacity l.initial.listed ≤ vec_capacity l.listed;
}
