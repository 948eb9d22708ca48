-- A reopening auction over its calls, the newest first.
use Rattle.std.specs.Prelude.{ℕ, Bool, Option, Some, None, List, [], ◌∷◌, option_map}
use Rattle.std.specs.Option.{option_map_or}
use Rattle.price_core.specs.declared.quote.Bands.{Bands}
use Rattle.price_core.specs.declared.quote.Unmatched.{Unmatched}
use Rattle.reopen_core.specs.declared.auction.Origin.{Origin}
use Rattle.reopen_core.specs.declared.auction.Indication.{Indication}
use Rattle.reopen_core.specs.declared.auction.Round.{Round}
use Rattle.reopen_core.specs.declared.auction.Trial.{Trial}
use Rattle.reopen_core.specs.declared.auction.Trial.TheVariants.{NotDue}
use Rattle.reopen_core.specs.Collars.{auction_reference}
use Rattle.reopen_core.specs.Trials.{trial, first_round, round_after}

-- An auction begins at a moment, with its origin, the bands and the reference price; a price is indicated, with the side
-- of unmatched orders; a trial is made at a moment, in the last ten minutes or before them.
pub data Call : Type 0 where
  Begin : ℕ → Origin → Bands → ℕ → Call
  Indicate : ℕ → Unmatched → Call
  Try : ℕ → Bool → Call

-- the auction reference of the auction that began last
abbrev pub reference_in : List Call → ℕ
reference_in [] = 0
reference_in (Begin t origin bands reference ∷ earlier) = auction_reference origin bands reference
reference_in (Indicate price unmatched ∷ earlier) = reference_in earlier
reference_in (Try t last_10 ∷ earlier) = reference_in earlier

-- the last indication since it began
abbrev pub indication_in : List Call → Option Indication
indication_in [] = None
indication_in (Begin t origin bands reference ∷ earlier) = None
indication_in (Indicate price unmatched ∷ earlier) = Some (record { price = price; unmatched = unmatched })
indication_in (Try t last_10 ∷ earlier) = indication_in earlier

-- its last round
abbrev pub last_round : List Call → Option Round
last_round [] = None
last_round (Begin t origin bands reference ∷ earlier) = Some (first_round t origin bands reference)
last_round (Indicate price unmatched ∷ earlier) = last_round earlier
last_round (Try t last_10 ∷ earlier) =
    option_map (λ round. round_after t (trial t last_10 round (reference_in earlier) (indication_in earlier)) round) (last_round earlier)

-- what a trial gives after these calls
abbrev pub trial_after : ℕ → Bool → List Call → Trial
trial_after t last_10 calls =
    option_map_or (λ round. trial t last_10 round (reference_in calls) (indication_in calls)) (last_round calls) NotDue
