-- What a call that sends does outside, and what it may fail with.
use Rattle.std.specs.Prelude.{◌≡◌, ◌≢◌, Result, Err, IfErr}
use Rattle.host_core.specs.declared.fault.Fault.{Fault}
use Rattle.host_core.specs.declared.fault.Fault.TheVariants.{Read, Send, Disk}
use Rattle.host_core.specs.Outside.{Outside}
use Rattle.host_core.specs.Frames.{OnlySends}
use Rattle.host_core.specs.Faults.{Causes}

-- bytes are sent and nothing else is done, and only sending fails, where the host met a fault
pub record Sent {T : Type 0} (result : Result T Fault) (old new : Outside) : Type 0 where
  pub keeps : OnlySends old new
  pub causes : Causes result old new
  pub fault : IfErr result (λ fault. fault ≡ Send)

-- bytes are sent and nothing else is done, and sending fails, where the host met a fault, or memory is short
pub record SentOrStarved {T : Type 0} (result : Result T Fault) (old new : Outside) : Type 0 where
  pub keeps : OnlySends old new
  pub causes : Causes result old new
  pub unread : result ≢ Err Read
  pub unkept : result ≢ Err Disk
