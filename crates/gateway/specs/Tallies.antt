-- What a reader counts of an answer.
use Rattle.std.specs.Prelude.{ℕ, ◌+◌, ◌-◌, ◌^◌, ◌==◌, nat_lt, min, if◌then◌else◌}
use Rattle.gateway.specs.declared.reader.Tally.{Tally}

-- one more, up to the greatest number of 64 bits
abbrev pub one_more : ℕ → ℕ
one_more n = min (n + 1) (2 ^ 64 - 1)

-- an answer of that version behind one of the version before
abbrev pub counted : ℕ → ℕ → Tally → Tally
counted before version tally = record {
  answers = one_more tally.answers;
  changes = if version == before then tally.changes else one_more tally.changes;
  fallen = if nat_lt version before then one_more tally.fallen else tally.fallen;
}
