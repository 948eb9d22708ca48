-- How a run ended, for the caller of the program.
use Rattle.std.specs.Prelude.{ℕ}
use Rattle.host_core.specs.declared.status.Status.{Status}
use Rattle.host_core.specs.declared.status.Status.TheVariants.{Done, Usage, Truncated, ReadFault, SendFault, DiskFault, SessionFull, Damaged, NoJournal, NoMemory, BadText, NotAtDay, Breach}

-- the exit code
abbrev pub code_of : Status → ℕ
code_of Done = 0
code_of Usage = 2
code_of Truncated = 3
code_of ReadFault = 4
code_of SendFault = 5
code_of DiskFault = 6
code_of SessionFull = 7
code_of (Damaged at) = 8
code_of NoJournal = 9
code_of NoMemory = 10
code_of (BadText line) = 11
code_of NotAtDay = 12
code_of (Breach place law) = 13
