-- What an audit of an input did, whatever its answer.
use Rattle.std.specs.Prelude.{◌≡◌, ℕ, Some, List, []}
use Rattle.host_core.specs.declared.status.Status.{Status}
use Rattle.host_core.specs.declared.status.Status.TheVariants.{Done, Truncated, ReadFault, SendFault, SessionFull, NoMemory, BadText, Breach}
use Rattle.host_core.specs.Outside.{Outside}
use Rattle.stream_core.specs.Streamed.{Streamed}
use Rattle.audit_core.specs.Streams.{end_of, text_of}

-- the most bytes that an audit reads
abbrev pub bytes_max : ℕ
bytes_max = 1099511627776

-- the input was read to its end, to the most bytes, or to a fault
abbrev pub IsEnd : Status → Type 0
IsEnd Done = Unit {0}
IsEnd Truncated = Unit {0}
IsEnd SessionFull = Unit {0}
IsEnd (BadText line) = Unit {0}
IsEnd (Breach place law) = Unit {0}
IsEnd _ = ⊥

-- the answers of an audit
abbrev pub IsAnswer : Status → Type 0
IsAnswer Done = Unit {0}
IsAnswer Truncated = Unit {0}
IsAnswer ReadFault = Unit {0}
IsAnswer SendFault = Unit {0}
IsAnswer SessionFull = Unit {0}
IsAnswer NoMemory = Unit {0}
IsAnswer (BadText line) = Unit {0}
IsAnswer (Breach place law) = Unit {0}
IsAnswer _ = ⊥

-- Frames were audited: before the end nothing is sent. Where memory is short, nothing was sent.
abbrev pub Audited : Status → Outside → Outside → Type 0
Audited status old new =
    Streamed (λ read. []) (text_of bytes_max) (end_of bytes_max) IsEnd IsAnswer
    ((input : List ℕ) → old.input ≡ Some input → new.sent ≡ old.sent) bytes_max status old new
