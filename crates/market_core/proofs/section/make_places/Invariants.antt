use Rattle.std.proofs.Common.{◌≡◌, ℕ, ◌+◌, ◌<◌, length}
use Rattle.std.specs.Prelude.{slice_index}
use Rattle.market_core.proofs.section.make_places.Given as goal

abbrev pub invariant-loop-place : goal.invariant-loop-place
invariant-loop-place l = record {
  more : length l.alarms ≡ length l.initial.alarms + l._place;
  same : (place : ℕ) → place < length l.initial.alarms → slice_index l.alarms place ≡ slice_index l.initial.alarms place;
}
