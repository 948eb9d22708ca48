-- The status of a run, and what it says.
use Rattle.std.proofs.Common.{◌≡◌, Result, Err, IfOk, arith}
use Rattle.host_core.specs.declared.fault.Fault.{Fault}
use Rattle.host_core.specs.declared.fault.Fault.TheVariants as fault
use Rattle.host_core.specs.declared.status.Status.{Status}
use Rattle.host_core.specs.declared.status.Status.TheVariants.{ReadFault, NoMemory}
use Rattle.host_core.specs.Faults.{Causes}
use Rattle.host_core.specs.Outside.{Outside}
use Rattle.stream_core.specs.Ends.{IsEnd, answer_of}
use Rattle.engine_core.specs.Ends.{Told}

pub at_an_end : (result : Result Status Fault) (P : Status → Type 0) → IfOk result P → IsEnd (answer_of result) → P (answer_of result)
at_an_end result P p end = grind arith

pub at_a_read : (result : Result Status Fault) → IfOk result IsEnd → answer_of result ≡ ReadFault → result ≡ Err fault.Read
at_a_read result end is = grind arith

pub at_no_memory : (result : Result Status Fault) → IfOk result IsEnd → answer_of result ≡ NoMemory → result ≡ Err fault.Memory
at_no_memory result end is = grind arith

pub told_of : (result : Result Status Fault) (old new : Outside) → IfOk result IsEnd → Causes result old new → Told (answer_of result) old new
told_of result old new end causes = grind arith
