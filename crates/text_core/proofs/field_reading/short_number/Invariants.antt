use Rattle.std.specs.Prelude.{◌≡◌, ◌+◌, ◌%◌, ◌^◌, ◌<◌, take, drop}
use Rattle.std.specs.List.{fold}
use Rattle.text_core.specs.Reading.{word_len, next_number}
use Rattle.text_core.proofs.field_reading.short_number.Given as goal

abbrev pub invariant-loop-len : goal.invariant-loop-len
invariant-loop-len l = record {
  len_is : word_len l.line ≡ l.len + word_len (drop l.len l.line);
  few : fold next_number 0 (take l.len l.line) < 10 ^ l.len;
  number_is : l.number ≡ fold next_number 0 (take l.len l.line) % 2 ^ 64;
}
