-- The frame of the picture: the ticks of its two axes.
use Rattle.std.specs.Prelude.{ℕ, Bool, ◌+◌, ◌-◌, ◌*◌, ◌/◌, ◌%◌, ◌^◌, nat_lt, nat_le, if◌then◌else◌, List, [], ◌∷◌, codes, decimal, unwrap_or}
use Rattle.std.specs.List.{find, flat_map, range_with_len}
use Rattle.picture_core.specs.Labels.{◌⊕◌, with_digits, dollars_text}
use Rattle.picture_core.specs.Scales.{x_of, y_of}
use Rattle.picture_core.specs.declared.axis.Axis.{Axis}

-- the moment of a half hour, counted from 09:00
abbrev pub half_hour : ℕ → ℕ
half_hour count = 32400000000000 + 1800000000000 * count

-- its hour and its minute
unfoldable pub half_hour_text : ℕ → List ℕ
half_hour_text count = with_digits 2 (9 + count / 2) ⊕ codes ":" ⊕ with_digits 2 (count % 2 * 30)

-- its tick down to a frame's lower edge, with its words below that
unfoldable pub time_tick : ℕ → ℕ → List ℕ
time_tick bottom count =
    codes "<path class=\"grid\" d=\"M" ⊕ decimal (x_of (half_hour count)) ⊕ codes " 300V" ⊕ decimal (bottom + 20)
    ⊕ codes "\"/><text class=\"time\" x=\"" ⊕ decimal (x_of (half_hour count)) ⊕ codes "\" y=\"" ⊕ decimal (bottom + 85) ⊕ codes "\">"
    ⊕ half_hour_text count ⊕ codes "</text>\n"

-- the ticks of all half hours, up to 16:30
abbrev pub time_ticks : ℕ → List ℕ
time_ticks bottom = flat_map (time_tick bottom) (range_with_len 0 16)

-- 1, 2 and 5 times a power of ten
abbrev pub steps_at : ℕ → List ℕ
steps_at power = 10 ^ power ∷ 2 * 10 ^ power ∷ 5 * 10 ^ power ∷ []

-- the distances of ticks
unfoldable pub steps : List ℕ
steps = flat_map steps_at (range_with_len 0 12)

-- eight of a distance reach over a range of prices
abbrev pub reaches : ℕ → ℕ → Bool
reaches range step = nat_le range (8 * step)

-- the first distance of which eight do
unfoldable pub step_of : ℕ → ℕ
step_of range = unwrap_or (find (reaches range) steps) (10 ^ 12)

-- the tick of a price, with its words on the left
unfoldable pub price_tick : Axis → ℕ → List ℕ
price_tick axis price =
    codes "<path class=\"grid\" d=\"M780 " ⊕ decimal (y_of axis price) ⊕ codes "H6200\"/><text class=\"left\" x=\"770\" y=\""
    ⊕ decimal (y_of axis price + 18) ⊕ codes "\">" ⊕ dollars_text price ⊕ codes "</text>\n"

-- a price has a tick where it is within the axis
unfoldable pub tick_within : Axis → ℕ → List ℕ
tick_within axis price = if nat_lt price axis.high then price_tick axis price else []

-- the nine multiples of a distance above the low end of the axis
abbrev pub ticks_by : Axis → ℕ → List ℕ
ticks_by axis step = flat_map (λ count. tick_within axis ((axis.low / step + 1 + count) * step)) (range_with_len 0 9)

-- the ticks of the price axis
unfoldable pub price_ticks : Axis → List ℕ
price_ticks axis = ticks_by axis (step_of (axis.high - axis.low))
