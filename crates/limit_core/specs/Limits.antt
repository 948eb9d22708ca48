-- Where a quotation stands to the price bands (LULD Plan, Sections VI and VII).
use Rattle.std.specs.Prelude.{ℕ, Bool, false, Option, Some, None, nat_lt, nat_le, if◌then◌else◌, ◌||◌}
use Rattle.price_core.specs.declared.quote.Bands.{Bands}
use Rattle.price_core.specs.declared.quote.Quotation.{Quotation}
use Rattle.price_core.specs.declared.quote.Side.{Side}
use Rattle.price_core.specs.declared.quote.Side.TheVariants.{Low, High}

-- a bid or an offer that is there and not above a price
abbrev pub is_at_most : Option ℕ → ℕ → Bool
is_at_most None price = false
is_at_most (Some p) price = nat_le p price

-- there and not below it
abbrev pub is_at_least : Option ℕ → ℕ → Bool
is_at_least None price = false
is_at_least (Some p) price = nat_le price p

-- there and below it
abbrev pub is_below : Option ℕ → ℕ → Bool
is_below None price = false
is_below (Some p) price = nat_lt p price

-- there and above it
abbrev pub is_above : Option ℕ → ℕ → Bool
is_above None price = false
is_above (Some p) price = nat_lt price p

-- a bid above its own offer
abbrev pub is_crossed : Quotation → Bool
is_crossed q = elim q.bid [ None ↦ false | Some bid ↦ is_below q.offer bid ]

-- not crossed, and an offer at the lower band or below it
abbrev pub is_at_lower : Quotation → Bands → Bool
is_at_lower q b = if is_crossed q then false else is_at_most q.offer b.lower

-- not crossed, and a bid at the upper band or above it
abbrev pub is_at_upper : Quotation → Bands → Bool
is_at_upper q b = if is_crossed q then false else is_at_least q.bid b.upper

-- a bid below the lower band or an offer above the upper
abbrev pub straddles : Quotation → Bands → Bool
straddles q b = is_below q.bid b.lower || is_above q.offer b.upper

-- the side of the bands that a quotation is at
abbrev pub at_limit : Quotation → Bands → Option Side
at_limit q b = if is_at_lower q b then Some Low else if is_at_upper q b then Some High else None
