-- A host that was asked for no failure.
use Rattle.std.proofs.Common.{◌≡◌, inl, inr, [], length, ap, arith}
use Rattle.std.specs.Prelude.{None}
use Rattle.memory_host.specs.declared.call.Call.{Call}
use Rattle.memory_host.specs.declared.ledger.Ledger.{Ledger}
use Rattle.memory_host.specs.Ledgers.{IsNamed}

-- none of its calls is named, so a call fails only where it finds no memory
pub never_named : (call : Call) (now : Ledger) → now.failures.items ≡ [] → now.fails_from ≡ None → IsNamed call now → ⊥
never_named call now none_asked none_from (inl named) = omega (arith, named.1, ap length none_asked)
never_named call now none_asked none_from (inr named) = rw none_from at named
