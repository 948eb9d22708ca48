use Rattle.std.proofs.Common.{◌≡◌, ◌++◌}
use Rattle.std.specs.List.{flat_map, range_with_len}
use Rattle.std.specs.String.{string_bytes}
use Rattle.picture_core.specs.Frames.{time_tick}
use Rattle.picture_core.proofs.frame.put_times.Given as goal

-- so many ticks are written
abbrev pub invariant-loop-count : goal.invariant-loop-count
invariant-loop-count l =
    string_bytes l.text ≡ string_bytes l.initial.text ++ flat_map (time_tick l.bottom) (range_with_len 0 l.count)
