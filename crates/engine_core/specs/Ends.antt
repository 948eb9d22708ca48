-- What the end of a session says of its host.
use Rattle.host_core.specs.declared.status.Status.{Status}
use Rattle.host_core.specs.declared.status.Status.TheVariants.{Done, Truncated, ReadFault, SendFault, DiskFault, SessionFull, Damaged, NoJournal, NoMemory}
use Rattle.host_core.specs.Outside.{Outside, Rose, NoFault}

-- what the status of a session says of the faults of its host, whatever else it says
abbrev pub Told : Status → Outside → Outside → Type 0
Told ReadFault old new = Rose old.read_faults new.read_faults
Told SendFault old new = Rose old.send_faults new.send_faults
Told DiskFault old new = Rose old.disk_faults new.disk_faults
Told NoMemory old new = NoFault old new
Told Done old new = Unit {0}
Told Truncated old new = Unit {0}
Told SessionFull old new = Unit {0}
Told (Damaged at) old new = Unit {0}
Told NoJournal old new = Unit {0}
Told _ old new = ⊥
