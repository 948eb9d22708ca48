use Rattle.std.proofs.Common.{◌≡◌, ℕ, ◌+◌, ◌-◌, ◌*◌, ◌≤◌, length, Some, vec_len, vec_capacity}
use Rattle.std.specs.Prelude.{slice_get}
use Rattle.wire_in.specs.Records.{moment_of}
use Rattle.symbol_core.specs.Evaluates.{most_of_symbol}
use Rattle.market_core.specs.Applied.{AppendsBelow}
use Rattle.market_core.proofs.section.Section.tick.Given as goal

abbrev pub invariant-loop-index : goal.invariant-loop-index
invariant-loop-index l = record {
  appends : AppendsBelow l.index l.market l.x l.fn.self.symbols l.self.symbols l.fn.out.items l.out.items;
  later : (k : ℕ) → l.index ≤ k → slice_get l.self.symbols k ≡ slice_get l.fn.self.symbols k;
  count : length l.self.symbols ≡ length l.fn.self.symbols;
  within : l.index ≤ l.count;
  since : l.self.since ≡ Some (record { from = moment_of l.x; market = l.market });
  spare : l.fn.self.spare ≤ l.self.spare;
  room : vec_capacity l.fn.out ≤ vec_capacity l.out;
  len : vec_len l.out ≤ vec_len l.fn.out + most_of_symbol * l.index;
}

abbrev pub decreases-loop-index : goal.decreases-loop-index
decreases-loop-index l = l.count - l.index
