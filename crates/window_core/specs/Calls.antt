-- The window of five minutes over its calls, the newest first. Calls that read or take room are left out.
use Rattle.std.specs.Prelude.{ℕ, List, [], ◌∷◌, ◌++◌, ◌==◌, if◌then◌else◌}
use Rattle.std.specs.List.{list_any}
use Rattle.window_core.specs.declared.window.Deal.{Deal}
use Rattle.window_core.specs.Deals.{live}

-- a later moment, a deal, the cancel of a number, and the restart
pub data Call : Type 0 where
  Advance : ℕ → Call
  Add : Deal → Call
  Cancel : ℕ → Call
  Restart : Call

-- the moment of the last advance, 0 after a restart
abbrev pub moment_in : List Call → ℕ
moment_in [] = 0
moment_in (Advance t ∷ earlier) = t
moment_in (Add d ∷ earlier) = moment_in earlier
moment_in (Cancel number ∷ earlier) = moment_in earlier
moment_in (Restart ∷ earlier) = 0

-- The deals since the last restart, the oldest first, that none of the cancels which came later has removed. These
-- are given by their numbers.
abbrev pub deals_in : List ℕ → List Call → List Deal
deals_in cancelled [] = []
deals_in cancelled (Advance t ∷ earlier) = deals_in cancelled earlier
deals_in cancelled (Add d ∷ earlier) =
    if list_any (λ number. d.number == number) cancelled then deals_in cancelled earlier
    else deals_in cancelled earlier ++ d ∷ []
deals_in cancelled (Cancel number ∷ earlier) = deals_in (number ∷ cancelled) earlier
deals_in cancelled (Restart ∷ earlier) = []

-- the deals of the last five minutes
abbrev pub window : List Call → List Deal
window calls = live (moment_in calls) (deals_in [] calls)
