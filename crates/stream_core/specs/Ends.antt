-- How a run ends over an input.
use Rattle.std.specs.Prelude.{ℕ, ◌==◌, nat_le, if◌then◌else◌, List, length, Result, Ok, Err}
use Rattle.host_core.specs.declared.fault.Fault.{Fault}
use Rattle.host_core.specs.declared.status.Status.{Status}
use Rattle.host_core.specs.declared.status.Status.TheVariants.{Done, Truncated, SessionFull}
use Rattle.host_core.specs.Faults.{status_of}
use Rattle.wire_in.specs.Cutting.{rest_of}

-- how a run ends over frames, where it reads so many bytes at most: they were read, or the input ended at a frame's edge,
-- or inside a frame
abbrev pub end_of : ℕ → List ℕ → Status
end_of most input =
    if nat_le most (length input) then SessionFull
    else if length (rest_of input) == 0 then Done
    else Truncated

-- the input was read to its end or to the most bytes
abbrev pub IsEnd : Status → Type 0
IsEnd Done = Unit {0}
IsEnd Truncated = Unit {0}
IsEnd SessionFull = Unit {0}
IsEnd _ = ⊥

-- the status of a run that answered its input so
abbrev pub answer_of : Result Status Fault → Status
answer_of (Ok status) = status
answer_of (Err fault) = status_of fault
