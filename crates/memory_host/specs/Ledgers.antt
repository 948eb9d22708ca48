-- What a host in memory was asked, and how each of its calls may end.
use Rattle.std.specs.Prelude.{◌≡◌, ◌⊎◌, ℕ, ◌≤◌, ◌^◌, ◌-◌, min, [], Contains, IsSomeAnd, Option, Some, None}
use Rattle.memory_host.specs.declared.call.Call.{Call}
use Rattle.memory_host.specs.declared.ledger.Ledger.{Ledger}
use Rattle.host_core.specs.Outside.{raised}
use Rattle.host_core.specs.Counts.{no_faults, faulted}
use Rattle.memory_host.specs.Calls.{no_calls, count_of, counted, side_of}

-- nothing was asked, and no call was made
pub record IsFresh (now : Ledger) : Type 0 where
  pub read : now.pieces.read ≡ 2 ^ 64 - 1
  pub send : now.pieces.send ≡ 2 ^ 64 - 1
  pub failures : now.failures.items ≡ []
  pub fails_from : now.fails_from ≡ None
  pub calls : now.calls ≡ no_calls
  pub faults : now.faults ≡ no_faults
  pub starved : now.starved ≡ 0

-- the next call of a kind is to fail: by its number among those of its kind, or since all fail from it or from an earlier one on
abbrev pub IsNamed : Call → Ledger → Type 0
IsNamed call now = Contains now.failures.items (record { call = call; number = raised (count_of call now.calls) })
    ⊎ IsSomeAnd now.fails_from (λ nth. nth ≤ raised now.calls.all)

-- the earlier of a call from which all fail, where one was asked for, and another
abbrev pub earliest : Option ℕ → ℕ → ℕ
earliest None nth = nth
earliest (Some before) nth = min before nth

-- a call was made
abbrev pub made : Call → Ledger → Ledger
made call old = record old { calls = counted call old.calls }

-- a call was made and failed
abbrev pub failed : Call → Ledger → Ledger
failed call old = record old { calls = counted call old.calls; faults = faulted (side_of call) old.faults }

-- a call was made, found no memory and failed
abbrev pub starved : Call → Ledger → Ledger
starved call old = record old { calls = counted call old.calls; faults = faulted (side_of call) old.faults; starved = raised old.starved }

-- a call that answered Ok was not named, and counts as no fault
pub record IsSpared (call : Call) (old new : Ledger) : Type 0 where
  pub unnamed : ¬ IsNamed call old
  pub counts : new ≡ made call old

-- a call that answered Failed was named, or found no memory
abbrev pub IsRefused : Call → Ledger → Ledger → Type 0
IsRefused call old new = (IsNamed call old × (new ≡ failed call old)) ⊎ (new ≡ starved call old)
