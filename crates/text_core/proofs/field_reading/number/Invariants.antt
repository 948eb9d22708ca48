use Rattle.std.specs.Prelude.{◌≡◌, ◌-◌, ◌^◌, min, take}
use Rattle.std.specs.List.{fold}
use Rattle.text_core.specs.Reading.{next_number}
use Rattle.text_core.proofs.field_reading.number.Given as goal

abbrev pub invariant-loop-byte : goal.invariant-loop-byte
invariant-loop-byte l = l.number ≡ min (fold next_number 0 (take l.byte-index l.word)) (2 ^ 64 - 1)
