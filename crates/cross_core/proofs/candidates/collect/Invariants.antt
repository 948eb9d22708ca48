use Rattle.std.proofs.Common.{◌≡◌, ℕ, true, ◌+◌, ◌*◌, ◌≤◌, take}
use Rattle.std.specs.Prelude.{nat_eq, vec_capacity, vec_len}
use Rattle.std.specs.List.{list_any}
use Rattle.cross_core.specs.Best.{is_within}
use Rattle.cross_core.specs.Steps.{is_beside, is_stop}
use Rattle.cross_core.proofs.candidates.collect.Given as goal

abbrev pub invariant-loop-step : goal.invariant-loop-step
invariant-loop-step l = record {
  room : vec_len l.prices ≤ 2 * l.step-index + 3;
  capacity : vec_capacity l.prices ≡ vec_capacity l.initial.prices;
  candidates : (p : ℕ) → list_any (nat_eq p) l.prices.items ≡ is_stop l.fn.reference l.collars (take l.step-index l.steps) p;
  last : (p : ℕ) → is_within l.collars p ≡ true → is_beside p l.last ≡ true → list_any (nat_eq p) l.prices.items ≡ true;
}
