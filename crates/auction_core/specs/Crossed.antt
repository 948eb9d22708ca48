-- What the crossing of an input did, whatever its answer.
use Rattle.std.specs.Prelude.{◌≡◌, ◌≢◌, ℕ, Some, List, []}
use Rattle.host_core.specs.declared.status.Status.{Status}
use Rattle.host_core.specs.declared.status.Status.TheVariants.{Done, ReadFault, SendFault, NoMemory, BadText}
use Rattle.host_core.specs.Outside.{Outside}
use Rattle.stream_core.specs.Streamed.{Streamed}
use Rattle.auction_core.specs.Texts.{IsTextOf, end_of, lines_of}

-- The most bytes that are read: those of the auction and a million orders, each of 255 bytes and a newline, and one more, which
-- makes any input bad.
abbrev pub bytes_max : ℕ
bytes_max = 256000257

-- the input was read to its end or to a bad line
abbrev pub IsEnd : Status → Type 0
IsEnd Done = Unit {0}
IsEnd (BadText line) = Unit {0}
IsEnd _ = ⊥

-- the answers
abbrev pub IsAnswer : Status → Type 0
IsAnswer Done = Unit {0}
IsAnswer ReadFault = Unit {0}
IsAnswer SendFault = Unit {0}
IsAnswer NoMemory = Unit {0}
IsAnswer (BadText line) = Unit {0}
IsAnswer _ = ⊥

-- The orders of an auction were crossed: while the input is read nothing is sent, and at its end the one text of its lines.
-- Where memory is short, nothing was sent.
abbrev pub HasCrossed : Status → Outside → Outside → Type 0
HasCrossed status old new =
    (whole : List ℕ → List ℕ) → ((input : List ℕ) → IsTextOf (lines_of input) (whole input))
    → Streamed (λ read. []) whole end_of IsEnd IsAnswer ((input : List ℕ) → old.input ≡ Some input → new.sent ≡ old.sent) bytes_max status old new

-- so at a bad line, at a read that failed and where memory is short, nothing was sent
abbrev pub SendsAtEnd : Status → Outside → Outside → Type 0
SendsAtEnd status old new = status ≢ Done → status ≢ SendFault → (input : List ℕ) → old.input ≡ Some input → new.sent ≡ old.sent
