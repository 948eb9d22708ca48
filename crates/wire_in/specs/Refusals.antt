-- How a refusal is told: by a code, and by the field that is refused.
use Rattle.std.specs.Prelude.{ℕ}
use Rattle.wire_in.specs.declared.record.Refusal.{Refusal}
use Rattle.wire_in.specs.declared.record.Refusal.TheVariants.{UnknownType, BadLength, BadField, NoDay, OutOfOrder, UnknownSymbol, AlreadyListed, DirectoryFull, JournalFull}

abbrev pub code_of : Refusal → ℕ
code_of UnknownType = 1
code_of BadLength = 2
code_of (BadField k) = 3
code_of NoDay = 4
code_of OutOfOrder = 5
code_of UnknownSymbol = 6
code_of AlreadyListed = 7
code_of DirectoryFull = 8
code_of JournalFull = 9

-- 0 where no field is refused
abbrev pub field_of : Refusal → ℕ
field_of (BadField k) = k
field_of _ = 0
