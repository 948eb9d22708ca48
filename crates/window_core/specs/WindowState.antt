-- What a window holds.
use Rattle.std.specs.Prelude.{◌≡◌, ℕ, ◌≤◌, List, [], ◌∷◌}
use Rattle.window_core.specs.declared.window.Deal.{Deal}
use Rattle.window_core.specs.Calls.{Call, Advance, Add, Cancel, Restart, moment_in, window}

-- the deals, the oldest first, and how many can be added before room is taken again
pub record WindowState : Type 0 where
  pub deals : List Deal
  pub spare : ℕ

-- no advance goes back, and each deal has the moment at which it was added
abbrev pub AreTimely : List Call → Type 0
AreTimely [] = Unit {0}
AreTimely (Advance t ∷ earlier) = (moment_in earlier ≤ t) × AreTimely earlier
AreTimely (Add d ∷ earlier) = (d.moment ≡ moment_in earlier) × AreTimely earlier
AreTimely (Cancel number ∷ earlier) = AreTimely earlier
AreTimely (Restart ∷ earlier) = AreTimely earlier

-- a window represents the calls so far
pub record Represents (held : WindowState) (calls : List Call) : Type 0 where
  pub timely : AreTimely calls
  pub deals : held.deals ≡ window calls
