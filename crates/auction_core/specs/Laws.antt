-- What holds of all inputs of an auction.
use Rattle.std.specs.Prelude.{◌≡◌, ℕ, List, Some}
use Rattle.cross_core.specs.declared.order.Order.{Order}
use Rattle.auction_core.specs.declared.auction.Auction.{Auction}
use Rattle.auction_core.specs.Lines.{PrintsAuction, PrintsOrder}
use Rattle.auction_core.specs.Reading.{auction_in, order_in}
use Rattle.auction_core.specs.Texts.{IsTextOf}

-- lines have a text
abbrev pub LinesHaveText : Type 0
LinesHaveText = (lines : List (List ℕ)) → (text : List ℕ) × IsTextOf lines text

-- and no other
abbrev pub TextsAreSame : Type 0
TextsAreSame = (lines : List (List ℕ)) (text other : List ℕ) → IsTextOf lines text → IsTextOf lines other → text ≡ other

-- a line that prints an auction is read as it
abbrev pub AuctionsAreRead : Type 0
AuctionsAreRead = (line : List ℕ) (a : Auction) → PrintsAuction line a → auction_in line ≡ Some a

-- and one that prints an order as that
abbrev pub OrdersAreRead : Type 0
OrdersAreRead = (line : List ℕ) (o : Order) → PrintsOrder line o → order_in line ≡ Some o
