-- The lines of an auction, without their newlines: what it is given, and what is sent for it.
use Rattle.std.specs.Prelude.{◌≡◌, ℕ, ◌≤◌, ◌<◌, ◌^◌, Bool, true, false, IfSome, List, [], ◌∷◌, codes, decimal}
use Rattle.price_core.specs.Ranges.{IsPrice}
use Rattle.session_core.specs.Moments.{IsMoment}
use Rattle.cross_core.specs.declared.order.Order.{Order}
use Rattle.cross_core.specs.declared.order.Row.{Row}
use Rattle.text_core.specs.Lines.{line_of}
use Rattle.text_core.specs.Words.{time_word, price_word, optional_price_word}
use Rattle.auction_core.specs.declared.auction.Auction.{Auction}

abbrev pub side_word : Bool → List ℕ
side_word true = codes "buy"
side_word false = codes "sell"

abbrev pub words_of_auction : Auction → List (List ℕ)
words_of_auction a =
    codes "auction" ∷ time_word a.moment ∷ decimal a.symbol ∷ price_word a.reference ∷ price_word a.collars.lower ∷ price_word a.collars.upper ∷ []

abbrev pub words_of_order : Order → List (List ℕ)
words_of_order o = codes "order" ∷ side_word o.buy ∷ optional_price_word o.price ∷ decimal o.size ∷ []

abbrev pub line_of_auction : Auction → List ℕ
line_of_auction a = line_of (words_of_auction a)

abbrev pub line_of_order : Order → List ℕ
line_of_order o = line_of (words_of_order o)

-- a line with a word and a number
abbrev pub number_line : List ℕ → ℕ → List ℕ
number_line word n = line_of (word ∷ decimal n ∷ [])

-- a price with what all orders buy and sell at it
abbrev pub line_of_row : Row → List ℕ
line_of_row row = line_of (codes "row" ∷ price_word row.price ∷ decimal row.buy ∷ decimal row.sell ∷ [])

-- a line prints an auction: any symbol of 16 bits, any reference, and a lower collar that is not above the upper one
pub record PrintsAuction (line : List ℕ) (a : Auction) : Type 0 where
  pub moment : IsMoment a.moment
  pub symbol : a.symbol < 2 ^ 16
  pub reference : IsPrice a.reference
  pub lower : IsPrice a.collars.lower
  pub upper : IsPrice a.collars.upper
  pub order : a.collars.lower ≤ a.collars.upper
  pub text : line ≡ line_of_auction a

-- a line prints an order: a price or none, and any size of 32 bits
pub record PrintsOrder (line : List ℕ) (o : Order) : Type 0 where
  pub price : IfSome o.price IsPrice
  pub size : o.size < 2 ^ 32
  pub text : line ≡ line_of_order o
