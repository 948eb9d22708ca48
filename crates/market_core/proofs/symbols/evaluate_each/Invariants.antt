use Rattle.std.proofs.Common.{◌≡◌, ℕ, ◌+◌, ◌*◌, ◌≤◌, vec_len, vec_capacity}
use Rattle.std.specs.Prelude.{slice_get}
use Rattle.symbol_core.specs.Evaluates.{most_of_symbol}
use Rattle.market_core.specs.Applied.{AppendsBelow}
use Rattle.market_core.proofs.symbols.evaluate_each.Given as goal

abbrev pub invariant-loop-i : goal.invariant-loop-i
invariant-loop-i l = record {
  appends : AppendsBelow l.i l.market l.x l.initial.symbols l.symbols l.initial.out.items l.out.items;
  later : (k : ℕ) → l.i ≤ k → slice_get l.symbols k ≡ slice_get l.initial.symbols k;
  room : vec_capacity l.initial.out ≤ vec_capacity l.out;
  len : vec_len l.out ≤ vec_len l.initial.out + most_of_symbol * l.i;
}
