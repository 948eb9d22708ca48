-- The price bands of a reference price (LULD Plan, Section V). Prices are ten-thousandths of a dollar, so a cent is 100 of them.
use Rattle.std.specs.Prelude.{ℕ, ◌+◌, ◌-◌, ◌*◌, min, max}
use Rattle.price_core.specs.declared.quote.Bands.{Bands}
use Rattle.price_core.specs.declared.quote.Category.{Category}
use Rattle.price_core.specs.declared.quote.Category.TheVariants as category
use Rattle.price_core.specs.Rounding.{round_cent}

-- the distance from the reference price, in thousandths of a unit. Below $0.75 it is at most $0.15, which leverage and doubling multiply too
abbrev pub distance_of : Category → ℕ → ℕ → ℕ → ℕ
distance_of category.Below percent leverage reference = min (reference * percent * leverage) (2000 * percent * leverage)
distance_of c percent leverage reference = reference * percent * leverage

-- the lower band is a cent at least, and the upper band a cent more than the lower at least
abbrev pub bands : ℕ → Category → ℕ → ℕ → Bands
bands reference c percent leverage =
    let distance = distance_of c percent leverage reference in
    let lower = max 100 (round_cent (1000 * reference - distance) 1000) in
    record {
      lower = lower;
      upper = min 99999999900 (max (lower + 100) (round_cent (1000 * reference + distance) 1000));
    }
