-- What stands at the offset of a gate.
use Rattle.std.specs.Prelude.{◌≡◌, ◌≢◌, ℕ, ◌+◌, ◌≤◌, List, [], ◌∷◌, length, drop}
use Rattle.wire_in.specs.declared.record.Record.{Record}
use Rattle.journal_core.specs.declared.at_gate.AtGate.{AtGate}
use Rattle.journal_core.specs.declared.at_gate.AtGate.TheVariants.{Closed, Batch, Damaged}
use Rattle.journal_core.specs.Layout.{Opens, frames_of}

-- the bytes begin neither with a closed gate nor with a batch
pub record IsDamaged (bytes : List ℕ) : Type 0 where
  pub not_closed : (rest : List ℕ) → bytes ≢ 0 ∷ rest
  pub no_batch : (batch : List Record) (rest : List ℕ) → ¬ Opens batch bytes rest

-- the bytes begin with a closed gate, or with a batch of these records and of so many bytes, or with neither
abbrev pub IsAtGate : AtGate → List ℕ → List Record → Type 0
IsAtGate Closed bytes records = (records ≡ []) × ((rest : List ℕ) × (bytes ≡ 0 ∷ rest))
IsAtGate (Batch len) bytes records = Opens records bytes (drop len bytes) × (len ≡ length (frames_of records) + 5) × (len ≤ length bytes)
IsAtGate Damaged bytes records = IsDamaged bytes
