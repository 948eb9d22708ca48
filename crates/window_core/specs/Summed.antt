-- Deals with the sum of their prices. Private words: no public clause cites them.
use Rattle.std.specs.Prelude.{◌≡◌, ℕ, ◌+◌, ◌≤◌, Bool, true, List, [], ◌∷◌, All, length}
use Rattle.price_core.specs.Ranges.{IsPrice}
use Rattle.session_core.specs.Durations.{five_minutes}
use Rattle.window_core.specs.declared.window.Deal.{Deal}
use Rattle.window_core.specs.Tallies.{Tallies}

-- none of the deals is before a moment
abbrev pub AllFrom : ℕ → List Deal → Type 0
AllFrom t [] = Unit {0}
AllFrom t (d ∷ deals) = (t ≤ d.moment) × AllFrom t deals

-- none is after it
abbrev pub AllUpTo : ℕ → List Deal → Type 0
AllUpTo t [] = Unit {0}
AllUpTo t (d ∷ deals) = (d.moment ≤ t) × AllUpTo t deals

-- moments don't fall
abbrev pub InOrder : List Deal → Type 0
InOrder [] = Unit {0}
InOrder (d ∷ deals) = AllFrom d.moment deals × InOrder deals

-- each has a price
abbrev pub AllPriced : List Deal → Type 0
AllPriced [] = Unit {0}
AllPriced (d ∷ deals) = IsPrice d.price × AllPriced deals

-- a sum is that of the deals' prices, none of the deals is after a moment, and where it is said that they are in order they are
pub record IsSummed (sum newest : ℕ) (is_ordered : Bool) (deals : List Deal) : Type 0 where
  pub tallies : Tallies sum (length deals) deals
  pub priced : AllPriced deals
  pub late : AllUpTo newest deals
  pub order : is_ordered ≡ true → InOrder deals

-- none of the deals is five minutes old before a moment
abbrev pub LastUntil : ℕ → List Deal → Type 0
LastUntil until deals = All (λ d. until ≤ d.moment + five_minutes) deals

-- and none of them is five minutes old before a moment
pub record AccountsFor (sum newest : ℕ) (is_ordered : Bool) (until : ℕ) (deals : List Deal) : Type 0 where
  pub summed : IsSummed sum newest is_ordered deals
  pub lasting : LastUntil until deals
