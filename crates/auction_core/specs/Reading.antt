-- How a line is taken for an auction or an order. It is read by its words, and then compared with the line of what was
-- read: so each value must be found in its own line, and it doesn't matter what is found in others.
use Rattle.std.specs.Prelude.{ℕ, Bool, true, false, ◌&&◌, nat_le, if◌then◌else◌, List, length, Option, Some, None, codes, bytes_eq}
use Rattle.cross_core.specs.declared.order.Order.{Order}
use Rattle.wire_core.specs.Fields.{checked}
use Rattle.wire_core.specs.OptionSteps.{◌>>=◌}
use Rattle.text_core.specs.Reading.{word_at, moment_in, number16_in, number32_in, price_in, optional_price_in}
use Rattle.auction_core.specs.declared.auction.Auction.{Auction}
use Rattle.auction_core.specs.Lines.{line_of_auction, line_of_order}

abbrev pub side_in : List ℕ → Option Bool
side_in word =
    if bytes_eq word (codes "buy") then Some true
    else if bytes_eq word (codes "sell") then Some false
    else None

unfoldable pub auction_of : List ℕ → Option Auction
auction_of line = do
  m ← moment_in (word_at 1 line)
  s ← number16_in (word_at 2 line)
  r ← price_in (word_at 3 line)
  l ← price_in (word_at 4 line)
  u ← price_in (word_at 5 line)
  Some (record { moment = m; symbol = s; reference = r; collars = record { lower = l; upper = u } })

unfoldable pub order_of : List ℕ → Option Order
order_of line = do
  b ← side_in (word_at 1 line)
  p ← optional_price_in (word_at 2 line)
  z ← number32_in (word_at 3 line)
  Some (record { buy = b; price = p; size = z })

-- a line has at most 255 bytes
abbrev pub is_line_of_auction : List ℕ → Auction → Bool
is_line_of_auction line a = nat_le (length line) 255 && (nat_le a.collars.lower a.collars.upper && bytes_eq line (line_of_auction a))

abbrev pub is_line_of_order : List ℕ → Order → Bool
is_line_of_order line o = nat_le (length line) 255 && bytes_eq line (line_of_order o)

-- the auction that a line prints, if it prints one
unfoldable pub auction_in : List ℕ → Option Auction
auction_in line = do
  a ← auction_of line
  checked (is_line_of_auction line a) a

-- the order that a line prints, if it prints one
unfoldable pub order_in : List ℕ → Option Order
order_in line = do
  o ← order_of line
  checked (is_line_of_order line o) o
