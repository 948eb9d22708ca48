-- The input of an auction, line by line, and what is sent for it.
use Rattle.std.specs.Prelude.{◌≡◌, ◌≢◌, ℕ, ◌+◌, nat_lt, if◌then◌else◌, List, [], ◌∷◌, ◌++◌, length, take, drop, map, Option, Some, None, is_some, codes}
use Rattle.std.specs.List.{concat}
use Rattle.host_core.specs.declared.status.Status.{Status}
use Rattle.host_core.specs.declared.status.Status.TheVariants.{Done, BadText}
use Rattle.wire_in.specs.declared.record.Record.TheVariants.{Indication}
use Rattle.cross_core.specs.declared.order.Order.{Order}
use Rattle.cross_core.specs.declared.order.Crossed.{Crossed}
use Rattle.cross_core.specs.Best.{IsCross}
use Rattle.cross_core.specs.Fills.{AreFills}
use Rattle.text_core.specs.declared.task.Task.TheVariants.{Pack}
use Rattle.text_core.specs.Lines.{line_of_record}
use Rattle.text_core.specs.Streams.{units_of, rest_of, last_unit}
use Rattle.auction_core.specs.declared.auction.Auction.{Auction}
use Rattle.auction_core.specs.Lines.{line_of_row, number_line}
use Rattle.auction_core.specs.Reading.{auction_in, order_in}

-- the lines of an input; the last one counts also without its newline
abbrev pub lines_of : List ℕ → List (List ℕ)
lines_of input = units_of Pack input ++ last_unit Pack (rest_of Pack input)

abbrev pub before_bad : Option Order → List Order → List Order
before_bad None later = []
before_bad (Some o) later = o ∷ later

-- the orders that lines print before the first that prints none
abbrev pub orders_in : List (List ℕ) → List Order
orders_in [] = []
orders_in (line ∷ lines) = before_bad (order_in line) (orders_in lines)

-- the auction that the first line prints
abbrev pub auction_at : List (List ℕ) → Option Auction
auction_at [] = None
auction_at (line ∷ lines) = auction_in line

-- the orders behind it, at most a million
abbrev pub orders_at : List (List ℕ) → List Order
orders_at lines = orders_in (take 1000000 (drop 1 lines))

-- how many lines stand before the first that is outside the grammar
abbrev pub good_lines : List (List ℕ) → ℕ
good_lines lines = if is_some (auction_at lines) then length (orders_at lines) + 1 else 0

-- how it ends: at its first bad line, counted from 1, and without a line at line 1
abbrev pub end_of_lines : List (List ℕ) → Status
end_of_lines [] = BadText 1
end_of_lines (line ∷ lines) = if nat_lt (good_lines (line ∷ lines)) (length (line ∷ lines)) then BadText (good_lines (line ∷ lines) + 1) else Done

abbrev pub end_of : List ℕ → Status
end_of input = end_of_lines (lines_of input)

-- lines with their newlines
abbrev pub text_of_lines : List (List ℕ) → List ℕ
text_of_lines lines = concat (map (λ line. line ++ 10 ∷ []) lines)

-- the lines of a cross: its price as an indication of the auction, its numbers, its rows, and what each order gets
abbrev pub cross_lines : Auction → Crossed → List ℕ → List (List ℕ)
cross_lines a crossed fills =
    line_of_record (Indication a.moment a.symbol crossed.price crossed.left)
    ∷ number_line (codes "volume") crossed.volume
    ∷ number_line (codes "imbalance") crossed.imbalance
    ∷ map line_of_row crossed.rows ++ map (number_line (codes "fill")) fills

-- a text is the one of an auction and its orders: of a cross of theirs, and of fills
pub record IsTextFor (a : Auction) (orders : List Order) (text : List ℕ) : Type 0 where
  pub crossed : Crossed
  pub fills : List ℕ
  pub is_cross : IsCross a.reference a.collars orders crossed
  pub are_fills : AreFills crossed.price crossed.volume orders fills
  pub text_is : text ≡ text_of_lines (cross_lines a crossed fills)

-- a text is the one of these lines, which is empty where one of them is bad
pub record IsTextOf (lines : List (List ℕ)) (text : List ℕ) : Type 0 where
  pub done : end_of_lines lines ≡ Done → (a : Auction) → auction_at lines ≡ Some a → IsTextFor a (orders_at lines) text
  pub bad : end_of_lines lines ≢ Done → text ≡ []
