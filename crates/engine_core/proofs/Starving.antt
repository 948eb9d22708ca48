-- Memory that is short.
use Rattle.std.proofs.Common.{◌≡◌, ◌≢◌, ℕ, List, Option, Result, Ok, Err, IfErr, subst, arith}
use Rattle.host_core.specs.declared.fault.Fault.{Fault}
use Rattle.host_core.specs.declared.fault.Fault.TheVariants as fault
use Rattle.wire_in.specs.declared.record.Record.{Record}
use Rattle.market_core.specs.Kinds.{TakesMemory}
use Rattle.engine_core.specs.Answering.{IsShort}

-- a call that fails for sending alone
pub not_short : {T : Type 0} (r : Result T Fault) → IfErr r (λ f. f ≡ fault.Send) → r ≢ Err fault.Memory
not_short r sends = grind arith

pub not_read : {T : Type 0} (r : Result T Fault) → IfErr r (λ f. f ≡ fault.Send) → r ≢ Err fault.Read
not_read r sends = grind arith

-- the record at which memory was short
pub takes_of : {workers : ℕ} (x : Record) {begin now : Option (List ℕ)} {text : List ℕ} → IsShort workers (Ok x) begin now text → workers ≡ 1 → TakesMemory x
takes_of x short one = let is : short.x ≡ x = cc in subst TakesMemory is (short.takes one)
