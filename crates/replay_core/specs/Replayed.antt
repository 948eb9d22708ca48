-- What a replay did, whatever its answer.
use Rattle.std.specs.Prelude.{◌≡◌, ◌⊎◌, ℕ, List, [], take, false, Option, Some}
use Rattle.host_core.specs.declared.status.Status.{Status}
use Rattle.host_core.specs.declared.status.Status.TheVariants.{Done, Truncated, ReadFault, SendFault, SessionFull, NoMemory}
use Rattle.host_core.specs.Outside.{Outside}
use Rattle.wire_in.specs.Cutting.{bodies_of}
use Rattle.stream_core.specs.Ends.{IsEnd, end_of}
use Rattle.stream_core.specs.Streamed.{Streamed}
use Rattle.engine_core.specs.Sessions.{Start, Starved, expected}

-- more records than any input has: a replay has no capacity of its own
abbrev pub capacity : ℕ
capacity = 18446744073709551615

-- a replay begins with no records and no greeting, and acknowledges nothing
abbrev pub replay_start : ℕ → Option (List ℕ) → Start
replay_start workers sent = record { workers = workers; capacity = capacity; held = []; acknowledges = false; opening = []; sent = sent }

-- all that a replay sends for the bytes that it has read, however many workers it has
unfoldable pub replay_text : List ℕ → List ℕ
replay_text read = expected (replay_start 1 (Some [])) (bodies_of read)

-- the disk has what it had, and no call of it failed
pub record LeavesDisk (old new : Outside) : Type 0 where
  pub disk : new.disk ≡ old.disk
  pub disk_faults : new.disk_faults ≡ old.disk_faults

-- the answers of a replay
abbrev pub IsAnswer : Status → Type 0
IsAnswer Done = Unit {0}
IsAnswer Truncated = Unit {0}
IsAnswer ReadFault = Unit {0}
IsAnswer SendFault = Unit {0}
IsAnswer SessionFull = Unit {0}
IsAnswer NoMemory = Unit {0}
IsAnswer _ = ⊥

-- The input was replayed by so many workers, up to so many bytes. Memory is short only before the first call of the host, or at a
-- record that is accepted, with all sent that is expected for the frames before it; where there is one worker, it is one that takes
-- memory. What says that no call of the host was made is given.
abbrev pub Replayed : Type 0 → ℕ → ℕ → Status → Outside → Outside → Type 0
Replayed unbegun workers most status old new =
    Streamed replay_text (λ input. replay_text (take most input)) (end_of most) IsEnd IsAnswer
    ((input : List ℕ) → old.input ≡ Some input → unbegun ⊎ Starved (replay_start workers old.sent) (bodies_of (take most input)) new) most status old new
