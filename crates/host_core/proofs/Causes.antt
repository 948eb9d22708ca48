-- Why a call ended, seen from earlier on.
use Rattle.std.proofs.Common.{◌≡◌, refl, sym, ◌∙◌, subst, arith}
use Rattle.std.specs.Prelude.{Result, Ok, Err}
use Rattle.host_core.specs.declared.fault.Fault.{Fault}
use Rattle.host_core.specs.declared.fault.Fault.TheVariants.{Read, Send, Disk, Memory}
use Rattle.host_core.specs.Outside.{Outside, NoFault}
use Rattle.host_core.specs.Faults.{HasCause, Causes}

-- no call, and two calls without a fault
pub no_fault : (now : Outside) → NoFault now now
no_fault now = record { reading = refl; sending = refl; storing = refl }

pub faultless : {old mid new : Outside} → NoFault old mid → NoFault mid new → NoFault old new
faultless first second = record {
  reading = second.reading ∙ first.reading;
  sending = second.sending ∙ first.sending;
  storing = second.storing ∙ first.storing;
}

-- calls without a fault, and then one that ended
pub fault_caused : {old mid : Outside} (new : Outside) (fault : Fault) → NoFault old mid → HasCause fault mid new → HasCause fault old new
fault_caused new Read before cause = omega (arith, before.reading, cause)
fault_caused new Send before cause = omega (arith, before.sending, cause)
fault_caused new Disk before cause = omega (arith, before.storing, cause)
fault_caused new Memory before none = faultless before none

pub caused : {T : Type 0} {old mid : Outside} (new : Outside) (result : Result T Fault) → NoFault old mid → Causes result mid new → Causes result old new
caused new (Ok x) before none = faultless before none
caused new (Err fault) before cause = fault_caused new fault before cause

-- a call that ended, and then calls without a fault
pub fault_caused_before : {mid new : Outside} (old : Outside) (fault : Fault) → HasCause fault old mid → NoFault mid new → HasCause fault old new
fault_caused_before old Read cause after = omega (arith, after.reading, cause)
fault_caused_before old Send cause after = omega (arith, after.sending, cause)
fault_caused_before old Disk cause after = omega (arith, after.storing, cause)
fault_caused_before old Memory none after = faultless none after

pub caused_before : {T : Type 0} {mid new : Outside} (old : Outside) (result : Result T Fault) → Causes result old mid → NoFault mid new → Causes result old new
caused_before old (Ok x) none after = faultless none after
caused_before old (Err fault) cause after = fault_caused_before old fault cause after

-- a fault that is answered on, by a call of another type
pub answered_on : {T : Type 0} (old new : Outside) (result : Result T Fault) (fault : Fault) → result ≡ Err fault → HasCause fault old new → Causes result old new
answered_on {T} old new result fault is cause = subst (λ (r : Result T Fault). Causes r old new) (sym is) cause

pub as_caused : {T U : Type 0} (old new : Outside) (first : Result T Fault) (result : Result U Fault) (fault : Fault)
    → first ≡ Err fault → result ≡ Err fault → Causes first old new → Causes result old new
as_caused {T} {U} old new first result fault is same causes =
    answered_on old new result fault same (subst (λ (r : Result T Fault). Causes r old new) is causes)
