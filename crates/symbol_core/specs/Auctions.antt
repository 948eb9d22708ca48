-- The reopening auction of a stock, as its history has it.
use Rattle.std.specs.Prelude.{ℕ, Bool, Option, None, List, if◌then◌else◌, option_map, option_and_then}
use Rattle.reopen_core.specs.declared.auction.Indication.{Indication}
use Rattle.reopen_core.specs.declared.auction.Origin.{Origin}
use Rattle.reopen_core.specs.declared.auction.Round.{Round}
use Rattle.reopen_core.specs.AuctionState.{AuctionState}
use Rattle.reopen_core.specs.Collars.{auction_reference}
use Rattle.rulebook.specs.declared.event.Event.{Event}
use Rattle.rulebook.specs.declared.symbol.Banded.{Banded}
use Rattle.rulebook.specs.Auction.{indication, is_paused, last_round, origin}
use Rattle.rulebook.specs.Symbol.{last_band, phase}

-- the auction of these bands, with its last round
abbrev pub auction_with : Origin → Option Indication → Banded → Round → AuctionState
auction_with origin indication band round =
    record { reference = auction_reference origin band.bands band.reference; indication = indication; round = round }

-- in a pause, where the run has bands
abbrev pub auction_by : Bool → Option Banded → Option Round → Origin → Option Indication → Option AuctionState
auction_by paused band round origin indication =
    if paused then option_and_then (λ b. option_map (auction_with origin indication b) round) band else None

-- the auction of s while it is paused: of the run's last bands, with what the last pause came from, the last indication since
-- then and the last round
abbrev pub auction_of : List Event → ℕ → Option AuctionState
auction_of h s = auction_by (is_paused (phase h s)) (last_band h s) (last_round h s) (origin h s) (indication h s)
