-- A host that exposes nothing.
use Rattle.std.specs.Prelude.{◌≡◌, ℕ, List, Option, Some, None}
use Rattle.std.proofs.Common.{subst}
use Rattle.host_core.specs.Outside.{Outside}

-- nothing but the counts of faults
abbrev pub opaque : ℕ → ℕ → ℕ → Outside
opaque read_faults send_faults disk_faults = record {
  input = None;
  sent = None;
  disk = None;
  asks = None;
  moment = 0;
  leaves = λ k image bytes. ⊥;
  read_faults = read_faults;
  send_faults = send_faults;
  disk_faults = disk_faults;
}

abbrev IsUntold : Option (List ℕ) → Type 0
IsUntold None = Unit {0}
IsUntold (Some bytes) = ⊥

-- what is not known is no bytes
pub unknown : (disk : List ℕ) → None ≡ Some disk → ⊥
unknown disk is = subst IsUntold is tt
