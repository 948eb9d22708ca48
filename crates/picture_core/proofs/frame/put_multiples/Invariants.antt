use Rattle.std.proofs.Common.{◌≡◌, ◌++◌, ◌+◌, ◌*◌, ◌/◌}
use Rattle.std.specs.List.{flat_map, range_with_len}
use Rattle.std.specs.String.{string_bytes}
use Rattle.picture_core.specs.Frames.{tick_within}
use Rattle.picture_core.proofs.frame.put_multiples.Given as goal

-- so many ticks are written
abbrev pub invariant-loop-count : goal.invariant-loop-count
invariant-loop-count l =
    string_bytes l.text
    ≡ string_bytes l.initial.text ++ flat_map (λ count. tick_within l.axis ((l.axis.low / l.step + 1 + count) * l.step)) (range_with_len 0 l.count)
