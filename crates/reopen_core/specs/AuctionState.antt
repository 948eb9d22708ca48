-- What is kept of a reopening auction.
use Rattle.std.specs.Prelude.{◌≡◌, ℕ, ◌*◌, ◌≤◌, Option, Some, None, List}
use Rattle.price_core.specs.declared.quote.Bands.{Bands}
use Rattle.price_core.specs.declared.quote.Unmatched.{Unmatched}
use Rattle.session_core.specs.Durations.{five_minutes}
use Rattle.reopen_core.specs.declared.auction.Origin.{Origin}
use Rattle.reopen_core.specs.declared.auction.Indication.{Indication}
use Rattle.reopen_core.specs.declared.auction.Round.{Round}
use Rattle.reopen_core.specs.declared.auction.Trial.{Trial}
use Rattle.reopen_core.specs.Collars.{auction_reference}
use Rattle.reopen_core.specs.Trials.{first_round, round_after}
use Rattle.reopen_core.specs.Calls.{Call, reference_in, indication_in, last_round}

-- the auction reference, the last indication, and the last round
pub record AuctionState : Type 0 where
  pub reference : ℕ
  pub indication : Option Indication
  pub round : Round

-- an auction begins
abbrev pub begun : ℕ → Origin → Bands → ℕ → AuctionState
begun t origin bands reference =
    record { reference = auction_reference origin bands reference; indication = None; round = first_round t origin bands reference }

-- a price is indicated
abbrev pub with_indication : ℕ → Unmatched → AuctionState → AuctionState
with_indication price unmatched kept = record kept { indication = Some (record { price = price; unmatched = unmatched }) }

-- a trial is made at t
abbrev pub with_trial : ℕ → Trial → AuctionState → AuctionState
with_trial t trial kept = record kept { round = round_after t trial kept.round }

-- each round before the last took five minutes
pub record IsTimely (round : Round) : Type 0 where
  pub rounds : round.number * five_minutes ≤ round.moment

-- an auction represents the calls so far
pub record Represents (kept : AuctionState) (calls : List Call) : Type 0 where
  pub reference : kept.reference ≡ reference_in calls
  pub indication : kept.indication ≡ indication_in calls
  pub round : Some kept.round ≡ last_round calls
