-- What a real host holds.
use Rattle.std.specs.Prelude.{ℕ, Bool, true, List, Option}
use Rattle.std.specs.Option.{option_map_or}
use Rattle.host_core.specs.Files.{FileState}
use Rattle.host_core.specs.declared.counts.FaultCounts.{FaultCounts}
use Rattle.host_core.specs.declared.real.RealHost.{RealHost}
use Rattle.host_core.specs.declared.file.JournalFile.{JournalFile}
use Rattle.host_core.specs.declared.raw.SystemFile.{SystemFile}

-- its input
abbrev pub reader_of : {R W D : Type 0} → RealHost R W D → R
reader_of host = host.input

-- its sink
abbrev pub writer_of : {R W D : Type 0} → RealHost R W D → W
writer_of host = host.output

-- its counts of faults
abbrev pub faults_of : {R W D : Type 0} → RealHost R W D → FaultCounts
faults_of host = host.faults

-- its disk
abbrev pub disk_of : {R W D : Type 0} → RealHost R W D → D
disk_of host = host.disk

-- whether a sync of a file of the system failed
abbrev pub has_failed : {T : Type 0} → SystemFile T → Bool
has_failed file = file.has_failed

-- the file of a journal: what opens it, its path, the file itself once it is opened, and whether a sync failed
abbrev pub files_of : {O F : Type 0} → JournalFile O F → O
files_of file = file.files

abbrev pub path_of : {O F : Type 0} → JournalFile O F → List ℕ
path_of file = file.path.now

abbrev pub opened_of : {O F : Type 0} → JournalFile O F → Option F
opened_of file = file.opened

abbrev pub has_lost : {O F : Type 0} → JournalFile O F → Bool
has_lost file = file.has_lost

-- what is known of it: of what stands at its path, and then of the opened file
abbrev pub file_state : {O F : Type 0} → (O → List ℕ → FileState) → (F → FileState) → JournalFile O F → FileState
file_state standing state file = option_map_or state file.opened (standing file.files file.path.now)

-- whatever is open is held
abbrev pub all_held : {O F : Type 0} → (F → FileState) → JournalFile O F → Bool
all_held state file = option_map_or (λ opened. (state opened).is_held) file.opened true
