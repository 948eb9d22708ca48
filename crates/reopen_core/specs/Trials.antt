-- The trials of a reopening auction, five minutes after its last collars (after Nasdaq Rule 4120).
use Rattle.std.specs.Prelude.{ℕ, Bool, Option, Some, None, ◌+◌, nat_lt, if◌then◌else◌}
use Rattle.price_core.specs.declared.quote.Bands.{Bands}
use Rattle.price_core.specs.declared.quote.Collars.{Collars}
use Rattle.price_core.specs.declared.quote.Unmatched.{Unmatched}
use Rattle.price_core.specs.declared.quote.Unmatched.TheVariants.{Nothing, Buy, Sell}
use Rattle.session_core.specs.Durations.{five_minutes}
use Rattle.reopen_core.specs.declared.auction.Origin.{Origin}
use Rattle.reopen_core.specs.declared.auction.Indication.{Indication}
use Rattle.reopen_core.specs.declared.auction.Round.{Round}
use Rattle.reopen_core.specs.declared.auction.Trial.{Trial}
use Rattle.reopen_core.specs.declared.auction.Trial.TheVariants.{NotDue, Extend, Release, Closing}
use Rattle.reopen_core.specs.Collars.{collar_step, first_collars, with_lower, with_upper}

-- an indicated price inside the collars: orders left unmatched widen their side
abbrev pub with_unmatched : Unmatched → ℕ → Collars → ℕ → Trial
with_unmatched Nothing price collars step = Release price
with_unmatched Buy price collars step = Extend (with_upper collars step)
with_unmatched Sell price collars step = Extend (with_lower collars step)

-- A price outside the collars widens that side, and so do market orders that are left unmatched; else the auction
-- releases, without an indication at the auction reference.
abbrev pub outcome : Option Indication → ℕ → Collars → Trial
outcome None reference collars = Release reference
outcome (Some i) reference collars =
    if nat_lt collars.upper i.price then Extend (with_upper collars (collar_step reference))
    else if nat_lt i.price collars.lower then Extend (with_lower collars (collar_step reference))
    else with_unmatched i.unmatched i.price collars (collar_step reference)

-- In the last ten minutes there is no reopening before the close.
abbrev pub trial : ℕ → Bool → Round → ℕ → Option Indication → Trial
trial t last_10 round reference indication =
    if nat_lt t (round.moment + five_minutes) then NotDue
    else if last_10 then Closing
    else outcome indication reference round.collars

-- the round in which an auction begins
abbrev pub first_round : ℕ → Origin → Bands → ℕ → Round
first_round t origin bands reference = record { number = 0; moment = t; collars = first_collars origin bands reference }

-- the round after a trial at t
abbrev pub round_after : ℕ → Trial → Round → Round
round_after t NotDue round = round
round_after t (Extend collars) round = record { number = round.number + 1; moment = t; collars = collars }
round_after t (Release price) round = round
round_after t Closing round = round
