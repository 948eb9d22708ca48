-- The calls of a host in memory, and their counts.
use Rattle.std.specs.Prelude.{ℕ}
use Rattle.memory_host.specs.declared.call.Call.{Call}
use Rattle.memory_host.specs.declared.call.Call.TheVariants.{Read, Send, Len, DiskRead, Write, Sync}
use Rattle.memory_host.specs.declared.call.Calls.{Calls}
use Rattle.host_core.specs.declared.counts.Side.{Side}
use Rattle.host_core.specs.declared.counts.Side.TheVariants.{Input, Sink, Disk}
use Rattle.host_core.specs.Outside.{raised}

abbrev pub no_calls : Calls
no_calls = record { read = 0; send = 0; len = 0; disk_read = 0; write = 0; sync = 0; all = 0 }

-- how many calls of a kind were made
abbrev pub count_of : Call → Calls → ℕ
count_of Read calls = calls.read
count_of Send calls = calls.send
count_of Len calls = calls.len
count_of DiskRead calls = calls.disk_read
count_of Write calls = calls.write
count_of Sync calls = calls.sync

-- the counts with one more call of a kind
abbrev pub counted : Call → Calls → Calls
counted Read calls = record calls { read = raised calls.read; all = raised calls.all }
counted Send calls = record calls { send = raised calls.send; all = raised calls.all }
counted Len calls = record calls { len = raised calls.len; all = raised calls.all }
counted DiskRead calls = record calls { disk_read = raised calls.disk_read; all = raised calls.all }
counted Write calls = record calls { write = raised calls.write; all = raised calls.all }
counted Sync calls = record calls { sync = raised calls.sync; all = raised calls.all }

-- what a call reaches
abbrev pub side_of : Call → Side
side_of Read = Input
side_of Send = Sink
side_of Len = Disk
side_of DiskRead = Disk
side_of Write = Disk
side_of Sync = Disk
