-- Where moments and prices stand in the picture: 12 units of x for a minute, from 800 at 09:00 to 6,200 at 16:30, and y
-- from 300 at the highest price of the axis to 2,900 at the lowest.
use Rattle.std.specs.Prelude.{ℕ, ◌+◌, ◌-◌, ◌*◌, ◌/◌, ◌<◌, ◌≤◌, ◌^◌, min, max, List, Option, Some, None}
use Rattle.std.specs.List.{fold}
use Rattle.wire_out.specs.declared.message.Message.{Message}
use Rattle.wire_out.specs.declared.message.Message.TheVariants.{Band, Collar, Release}
use Rattle.wire_out.specs.declared.message.Stamped.{Stamped}
use Rattle.picture_core.specs.declared.axis.Axis.{Axis}

-- the x of a moment in nanoseconds; moments outside of the picture stand at its edges
unfoldable pub x_of : ℕ → ℕ
x_of moment = 800 + (min moment 59400000000000 - 32400000000000) / 5000000000

-- an axis of prices
pub record IsAxis (axis : Axis) : Type 0 where
  pub rises : axis.low < axis.high
  pub bounded : axis.high ≤ 2 ^ 66

-- the y of a price in ten-thousandths of a dollar; prices outside of the axis stand at its ends
unfoldable pub y_of : Axis → ℕ → ℕ
y_of axis price = 2900 - (min price axis.high - axis.low) * 2600 / (axis.high - axis.low)

-- the least price that a message draws
abbrev pub least : Message → Option ℕ
least (Band s cause reference lower upper) = Some (min reference (min lower upper))
least (Collar s round lower upper) = Some (min lower upper)
least (Release s price) = Some price
least _ = None

-- the greatest price that a message draws
abbrev pub greatest : Message → Option ℕ
greatest (Band s cause reference lower upper) = Some (max reference (max lower upper))
greatest (Collar s round lower upper) = Some (max lower upper)
greatest (Release s price) = Some price
greatest _ = None

-- the one of two numbers that f picks, or the one that is there
abbrev pub one_of : (ℕ → ℕ → ℕ) → Option ℕ → Option ℕ → Option ℕ
one_of f None y = y
one_of f (Some x) None = Some x
one_of f (Some x) (Some y) = Some (f x y)

-- the least price that is drawn
abbrev pub lowest : List Stamped → Option ℕ
lowest messages = fold (λ low x. one_of min low (least x.message)) None messages

-- the greatest price that is drawn
abbrev pub highest : List Stamped → Option ℕ
highest messages = fold (λ high x. one_of max high (greatest x.message)) None messages

-- a twentieth of the range that is drawn, below and above it
abbrev pub margin : ℕ → ℕ → ℕ
margin low high = (high - low) / 20 + 1

abbrev pub axis_between : ℕ → ℕ → Axis
axis_between low high = record { low = low - margin low high; high = max low high + margin low high }

-- the axis of the prices that are drawn; none where none is
abbrev pub axis_of : Option ℕ → Option ℕ → Option Axis
axis_of (Some low) (Some high) = Some (axis_between low high)
axis_of _ _ = None
