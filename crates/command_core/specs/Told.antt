-- What is told on standard error of how a run ended.
use Rattle.std.specs.Prelude.{ℕ, List, Option, Some, None, codes, ◌==◌, if◌then◌else◌}
use Rattle.host_core.specs.Streams.{with_number, with_newline}
use Rattle.host_core.specs.declared.status.Status.{Status}
use Rattle.host_core.specs.declared.status.Status.TheVariants.{Done, Usage, Truncated, ReadFault, SendFault, DiskFault, SessionFull, Damaged, NoJournal, NoMemory, BadText, NotAtDay, Breach}

-- what is told of a law of that number, up to the frame that breaks it
abbrev pub broken_law : ℕ → List ℕ
broken_law law = if law == 1 then codes "halts: law 1 is broken at frame " else if law == 2 then codes "halts: law 2 is broken at frame " else if law == 3 then codes "halts: law 3 is broken at frame " else if law == 4 then codes "halts: law 4 is broken at frame " else if law == 5 then codes "halts: law 5 is broken at frame " else if law == 6 then codes "halts: law 6 is broken at frame " else if law == 7 then codes "halts: law 7 is broken at frame " else codes "halts: a law is broken at frame "

-- one line for each end but the good one, without its newline
abbrev pub line_of : Status → Option (List ℕ)
line_of Done = None
line_of Usage = Some (codes "halts: usage: halts <journal> format|serve|replay|status|print|pack|generate|roll|board|cross|audit|ship|standby")
line_of Truncated = Some (codes "halts: the input ends inside a frame")
line_of ReadFault = Some (codes "halts: the input could not be read")
line_of SendFault = Some (codes "halts: the output could not be written")
line_of DiskFault = Some (codes "halts: the journal could not be read or written")
line_of SessionFull = Some (codes "halts: the bytes of the session are used up")
line_of (Damaged at) = Some (with_number (codes "halts: the journal is damaged at ") (Some at) (codes ""))
line_of NoJournal = Some (codes "halts: there is no journal")
line_of NoMemory = Some (codes "halts: out of memory")
line_of (BadText line) = Some (with_number (codes "halts: line ") (Some line) (codes " is not understood"))
line_of NotAtDay = Some (codes "halts: the last record is not a day")
line_of (Breach place law) = Some (with_number (broken_law law) (Some place) (codes ""))

-- all that is told of a status
abbrev pub told_of : Status → List ℕ
told_of status = with_newline (line_of status)
