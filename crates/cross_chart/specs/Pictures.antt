-- The text of the picture, part by part.
use Rattle.std.specs.Prelude.{ℕ, ◌+◌, ◌-◌, nat_le, if◌then◌else◌, List, codes, decimal}
use Rattle.cross_core.specs.declared.order.Crossed.{Crossed}
use Rattle.cross_chart.specs.Axes.{extent_of, frame_of, x_of, y_of}
use Rattle.cross_chart.specs.Curves.{curve_text}
use Rattle.cross_chart.specs.Words.{◌⊕◌, dollars_text, title, outcome_text}
use Rattle.cross_chart.specs.declared.axis.Extent.{Extent}
use Rattle.cross_chart.specs.declared.axis.Frame.{Frame}
use Rattle.cross_chart.specs.declared.curve.Curve.TheVariants.{Buys, Sells}
use Rattle.cross_chart.specs.declared.picture.TheConstants.{STYLE, LEGEND}
use Rattle.cross_chart.specs.declared.sketch.Sketch.{Sketch}

-- how things are drawn, a text that stands in the code
unfoldable pub style : List ℕ
style = STYLE.now

-- the frame with the names of its axes and the legend
unfoldable pub legend : List ℕ
legend = LEGEND.now

-- words of a class at a point
unfoldable pub words_at : List ℕ → ℕ → ℕ → List ℕ → List ℕ
words_at class x y words =
    codes "<text class=\"" ⊕ class ⊕ codes "\" x=\"" ⊕ decimal x ⊕ codes "\" y=\"" ⊕ decimal y ⊕ codes "\">" ⊕ words ⊕ codes "</text>\n"

-- an upright line of a class
unfoldable pub upright : List ℕ → ℕ → List ℕ
upright class x = codes "<path class=\"" ⊕ class ⊕ codes "\" d=\"M" ⊕ decimal x ⊕ codes " 300V2900\"/>\n"

-- what the picture tells in words
unfoldable pub description : Extent → List ℕ → List ℕ
description e outcome =
    codes "Shares that buy and shares that sell at each price from " ⊕ dollars_text e.low ⊕ codes " to " ⊕ dollars_text e.high
    ⊕ codes " dollars: " ⊕ outcome ⊕ codes "."

-- the head of the picture, with its title and its description for whoever doesn't see it
unfoldable pub head : List ℕ → List ℕ → List ℕ → List ℕ
head title description outcome =
    codes "<svg xmlns=\"http://www.w3.org/2000/svg\" role=\"img\" aria-labelledby=\"title description\" width=\"1280\" height=\"660\" viewBox=\"0 0 6400 3300\">\n<title id=\"title\">"
    ⊕ title ⊕ codes "</title>\n<desc id=\"description\">" ⊕ description ⊕ codes "</desc>\n" ⊕ style
    ⊕ codes "<rect class=\"page\" width=\"6400\" height=\"3300\"/>\n<text class=\"title\" x=\"800\" y=\"130\">" ⊕ title
    ⊕ codes "</text><text x=\"800\" y=\"210\">" ⊕ outcome ⊕ codes "</text>\n" ⊕ legend

-- a line at the most shares, with their number on the left
unfoldable pub most_shares : Frame → ℕ → List ℕ
most_shares frame most =
    codes "<path class=\"grid\" d=\"M780 " ⊕ decimal (y_of frame most) ⊕ codes "H6200\"/>" ⊕ words_at (codes "left") 770 (y_of frame most + 18) (decimal most)

-- a collar by its name and its price
unfoldable pub collar_words : List ℕ → ℕ → List ℕ
collar_words name price = name ⊕ codes " collar " ⊕ dollars_text price

-- its line, with its words on one side
unfoldable pub collar : List ℕ → List ℕ → ℕ → ℕ → ℕ → List ℕ
collar class name x beside price = upright (codes "collar") x ⊕ words_at class beside 2985 (collar_words name price)

-- both collars, with their words between them
unfoldable pub collars : Frame → Extent → List ℕ
collars frame e =
    collar (codes "plain") (codes "lower") (x_of frame e.low) (x_of frame e.low + 10) e.low
    ⊕ collar (codes "left") (codes "upper") (x_of frame e.high) (x_of frame e.high - 10) e.high

-- the price with its label
unfoldable pub price_line : Frame → ℕ → List ℕ
price_line frame price = upright (codes "price") (x_of frame price) ⊕ words_at (codes "middle") (x_of frame price) 285 (dollars_text price)

-- the number of the volume beside its point, on the side where there is more room
unfoldable pub volume_label : ℕ → ℕ → ℕ → List ℕ
volume_label x y volume =
    if nat_le x 3500 then words_at (codes "strong") (x + 60) (y - 50) (codes "volume " ⊕ decimal volume)
    else words_at (codes "strong left") (x - 60) (y - 50) (codes "volume " ⊕ decimal volume)

-- the point of the volume at the price, with a line to it from the left
unfoldable pub point : Frame → ℕ → ℕ → List ℕ
point frame price volume =
    codes "<path class=\"grid\" d=\"M780 " ⊕ decimal (y_of frame volume) ⊕ codes "H" ⊕ decimal (x_of frame price)
    ⊕ codes "\"/><circle cx=\"" ⊕ decimal (x_of frame price) ⊕ codes "\" cy=\"" ⊕ decimal (y_of frame volume) ⊕ codes "\" r=\"28\"/>"
    ⊕ volume_label (x_of frame price) (y_of frame volume) volume

-- what is drawn over the frame
unfoldable pub drawing : Frame → Extent → Crossed → List ℕ
drawing frame e crossed =
    most_shares frame e.most ⊕ collars frame e ⊕ curve_text frame Buys crossed.rows ⊕ curve_text frame Sells crossed.rows
    ⊕ price_line frame crossed.price ⊕ point frame crossed.price crossed.volume ⊕ codes "</svg>\n"

-- the outcome of a cross in words
abbrev pub outcome_of : Crossed → List ℕ
outcome_of crossed = outcome_text crossed.price crossed.volume crossed.imbalance crossed.left

-- the picture of an auction
unfoldable pub picture_of : Sketch → List ℕ
picture_of k =
    head (title k.symbol k.moment) (description (extent_of k.crossed.rows) (outcome_of k.crossed)) (outcome_of k.crossed)
    ⊕ drawing (frame_of (extent_of k.crossed.rows)) (extent_of k.crossed.rows) k.crossed
