-- Why a call ended.
use Rattle.std.specs.Prelude.{Result, Ok, Err}
use Rattle.host_core.specs.declared.fault.Fault.{Fault}
use Rattle.host_core.specs.declared.fault.Fault.TheVariants.{Read, Send, Disk, Memory}
use Rattle.host_core.specs.declared.status.Status.{Status}
use Rattle.host_core.specs.declared.status.Status.TheVariants.{ReadFault, SendFault, DiskFault, NoMemory}
use Rattle.host_core.specs.Outside.{Outside, Rose, NoFault}

-- a fault of the host is answered only where its own count rose, and want of memory only where none did
abbrev pub HasCause : Fault → Outside → Outside → Type 0
HasCause Read old new = Rose old.read_faults new.read_faults
HasCause Send old new = Rose old.send_faults new.send_faults
HasCause Disk old new = Rose old.disk_faults new.disk_faults
HasCause Memory old new = NoFault old new

-- and where a call answers Ok no count rose
abbrev pub Causes : {T : Type 0} → Result T Fault → Outside → Outside → Type 0
Causes (Ok x) old new = NoFault old new
Causes (Err fault) old new = HasCause fault old new

-- the status of a run that a fault ended
abbrev pub status_of : Fault → Status
status_of Read = ReadFault
status_of Send = SendFault
status_of Disk = DiskFault
status_of Memory = NoMemory
