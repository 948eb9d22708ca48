-- The answers where a journal was not read to its end.
use Rattle.std.specs.Prelude.{◌≡◌, ◌⊎◌, ℕ}
use Rattle.host_core.specs.declared.status.Status.{Status}
use Rattle.host_core.specs.declared.status.Status.TheVariants.{SendFault, DiskFault, Damaged, NoJournal, NoMemory}

-- the answers where no header stands: there is no journal, or a fault or want of memory before that was known
abbrev pub TellsNoJournal : Status → Type 0
TellsNoJournal status = (status ≡ NoJournal) ⊎ (status ≡ DiskFault) ⊎ (status ≡ NoMemory)

-- the answers to a journal that is damaged there: the damage at just that gate, or a fault or want of memory before it
abbrev pub TellsDamage : ℕ → Status → Type 0
TellsDamage at status = (status ≡ Damaged at) ⊎ (status ≡ DiskFault) ⊎ (status ≡ SendFault) ⊎ (status ≡ NoMemory)

-- the answers where no scan begins
abbrev pub TellsNoStart : Status → Type 0
TellsNoStart status = TellsNoJournal status ⊎ ((at : ℕ) × (status ≡ Damaged at))
