use Rattle.std.proofs.Common.{◌≡◌, ℕ, ◌+◌, ◌≤◌}
use Rattle.std.specs.Prelude.{vec_len, vec_capacity}
use Rattle.audit_core.specs.Audits.{stock_at}
use Rattle.audit_core.proofs.audit.push_silent.Given as goal

abbrev pub invariant-loop-more : goal.invariant-loop-more
invariant-loop-more l =
    ((s : ℕ) → stock_at l.stocks.items s ≡ stock_at l.fn.stocks.items s)
    × (vec_len l.stocks ≡ vec_len l.fn.stocks + l._more)
    × (vec_len l.fn.stocks + l.fn.count ≤ vec_capacity l.stocks)
