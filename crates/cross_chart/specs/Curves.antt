-- The curves of the shares that buy and those that sell, over the prices.
use Rattle.std.specs.Prelude.{ℕ, ◌+◌, ◌==◌, if◌then◌else◌, List, [], ◌∷◌, codes, decimal}
use Rattle.cross_core.specs.declared.order.Row.{Row}
use Rattle.cross_chart.specs.Axes.{x_of, y_of}
use Rattle.cross_chart.specs.Words.{◌⊕◌}
use Rattle.cross_chart.specs.declared.axis.Frame.{Frame}
use Rattle.cross_chart.specs.declared.curve.Curve.{Curve}
use Rattle.cross_chart.specs.declared.curve.Curve.TheVariants.{Buys, Sells}

-- the class of a curve in the picture's style
abbrev pub class_of : Curve → List ℕ
class_of Buys = codes "buys"
class_of Sells = codes "sells"

-- the shares that it shows of a row
abbrev pub shares_of : Curve → Row → ℕ
shares_of Buys row = row.buy
shares_of Sells row = row.sell

-- where it begins
abbrev pub beginning : Frame → Curve → Row → List ℕ
beginning frame curve row = codes "M" ⊕ decimal (x_of frame row.price) ⊕ codes " " ⊕ decimal (y_of frame (shares_of curve row))

-- its step at a price
abbrev pub step : Frame → Curve → Row → List ℕ
step frame curve row = codes "H" ⊕ decimal (x_of frame row.price) ⊕ codes "V" ⊕ decimal (y_of frame (shares_of curve row))

-- it begins at the first row, and has a step at each other one
unfoldable pub corner : Frame → Curve → ℕ → Row → List ℕ
corner frame curve at row = if at == 0 then beginning frame curve row else step frame curve row

-- from that row on
abbrev pub corners : Frame → Curve → ℕ → List Row → List ℕ
corners frame curve at [] = []
corners frame curve at (row ∷ rows) = corner frame curve at row ⊕ corners frame curve (at + 1) rows

-- a curve of all rows
unfoldable pub curve_text : Frame → Curve → List Row → List ℕ
curve_text frame curve rows = codes "<path class=\"" ⊕ class_of curve ⊕ codes "\" d=\"" ⊕ corners frame curve 0 rows ⊕ codes "\"/>\n"
