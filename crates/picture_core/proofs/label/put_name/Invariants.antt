use Rattle.std.proofs.Common.{◌≡◌, ◌++◌, take}
use Rattle.std.specs.List.{flat_map}
use Rattle.std.specs.String.{string_bytes}
use Rattle.picture_core.specs.Labels.{character_text}
use Rattle.picture_core.proofs.label.put_name.Given as goal

-- so many characters are written
abbrev pub invariant-loop-byte : goal.invariant-loop-byte
invariant-loop-byte l =
    string_bytes l.text ≡ string_bytes l.initial.text ++ flat_map character_text (take l.byte-index l.name)
