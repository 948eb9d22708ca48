-- Where prices and shares stand in the picture: x from 800 at the low end of the prices to 6,200 at the high one, and y from 2,900
-- at no share to 300 at the most.
use Rattle.std.specs.Prelude.{ℕ, ◌+◌, ◌-◌, ◌*◌, ◌/◌, ◌<◌, ◌≤◌, ◌^◌, min, max, List}
use Rattle.std.specs.List.{fold}
use Rattle.cross_core.specs.declared.order.Row.{Row}
use Rattle.cross_chart.specs.declared.axis.Axis.{Axis}
use Rattle.cross_chart.specs.declared.axis.Extent.{Extent}
use Rattle.cross_chart.specs.declared.axis.Frame.{Frame}

-- an axis of prices or of shares
pub record IsAxis (axis : Axis) : Type 0 where
  pub rises : axis.low < axis.high
  pub bounded : axis.high ≤ 2 ^ 66

-- how far above the low end of an axis a value stands; values outside of the axis stand at its ends
abbrev pub above : Axis → ℕ → ℕ
above axis value = min value axis.high - axis.low

-- both axes
pub record IsFrame (frame : Frame) : Type 0 where
  pub prices : IsAxis frame.prices
  pub shares : IsAxis frame.shares

-- the x of a price in ten-thousandths of a dollar
unfoldable pub x_of : Frame → ℕ → ℕ
x_of frame price = 800 + above frame.prices price * 5400 / (frame.prices.high - frame.prices.low)

-- the y of a number of shares
unfoldable pub y_of : Frame → ℕ → ℕ
y_of frame shares = 2900 - above frame.shares shares * 2600 / (frame.shares.high - frame.shares.low)

-- the lowest and the highest price, and the most shares of a side, with a row more
abbrev pub with_row : Extent → Row → Extent
with_row e row = record { low = min e.low row.price; high = max e.high row.price; most = max e.most (max row.buy row.sell) }

-- of all rows
abbrev pub extent_of : List Row → Extent
extent_of rows = fold with_row (record { low = 99999999999; high = 1; most = 0 }) rows

-- a twentieth of a range
abbrev pub margin : ℕ → ℕ
margin range = range / 20 + 1

-- the prices have a margin on both sides, and the shares above
abbrev pub frame_of : Extent → Frame
frame_of e = record {
  prices = record { low = e.low - margin (e.high - e.low); high = max e.low e.high + margin (e.high - e.low) };
  shares = record { low = 0; high = e.most + margin e.most };
}
