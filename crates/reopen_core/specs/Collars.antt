-- The collars of a reopening auction, in ten-thousandths of a dollar (after Nasdaq Rule 4120).
use Rattle.std.specs.Prelude.{ℕ, ◌+◌, ◌-◌, ◌*◌, nat_lt, if◌then◌else◌, min, max}
use Rattle.price_core.specs.Rounding.{round_cent}
use Rattle.price_core.specs.declared.quote.Bands.{Bands}
use Rattle.price_core.specs.declared.quote.Collars.{Collars}
use Rattle.reopen_core.specs.declared.auction.Origin.{Origin}
use Rattle.reopen_core.specs.declared.auction.Origin.TheVariants.{Low, High, Straddle}

-- out of a limit state the band of its side, out of a straddle state the reference price
abbrev pub auction_reference : Origin → Bands → ℕ → ℕ
auction_reference Low bands reference = bands.lower
auction_reference High bands reference = bands.upper
auction_reference Straddle bands reference = reference

-- 5 per cent to the nearest cent above $3.00, else $0.15
abbrev pub collar_step : ℕ → ℕ
collar_step reference = if nat_lt 30000 reference then round_cent (5 * reference) 100 else 1500

-- a step below a price, a unit at least
abbrev pub below : ℕ → ℕ → ℕ
below price step = max 1 (price - step)

-- a step above a price, at most the greatest price
abbrev pub above : ℕ → ℕ → ℕ
above price step = min 99999999999 (price + step)

-- one collar step from the auction reference, on the other side of a limit state the band
abbrev pub first_collars : Origin → Bands → ℕ → Collars
first_collars Low bands reference = record { lower = below bands.lower (collar_step bands.lower); upper = bands.upper }
first_collars High bands reference = record { lower = bands.lower; upper = above bands.upper (collar_step bands.upper) }
first_collars Straddle bands reference =
    record { lower = below reference (collar_step reference); upper = above reference (collar_step reference) }

-- the lower collar moves down by a step
abbrev pub with_lower : Collars → ℕ → Collars
with_lower collars step = record collars { lower = below collars.lower step }

-- the upper collar moves up by a step
abbrev pub with_upper : Collars → ℕ → Collars
with_upper collars step = record collars { upper = above collars.upper step }
