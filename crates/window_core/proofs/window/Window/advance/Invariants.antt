use Rattle.std.proofs.Common.{◌≡◌, ◌≤◌}
use Rattle.window_core.specs.Deals.{live}
use Rattle.window_core.proofs.window.Window.advance.Given as goal

-- those that were removed were five minutes old
abbrev pub invariant-loop : goal.invariant-loop
invariant-loop l = record { same : live l.t l.self.deals ≡ live l.t l.fn.self.deals; spare : l.fn.self.spare ≤ l.self.spare }
