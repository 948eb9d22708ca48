-- Each auction and each order is found in its own line.
use Rattle.std.proofs.Common.{◌≡◌, ℕ, ◌+◌, ◌/◌, ◌≤◌, Bool, true, false, List, [], ◌∷◌, length, refl, ap, ◌∙◌, arith, length-append}
use Rattle.std.specs.Prelude.{Option, Some, None, IfSome, nat_le, ◌&&◌, bytes_eq, codes, decimal}
use Rattle.std.proofs.lemmas.Bool.Decides.{nat_tests}
use Rattle.std.proofs.lemmas.Fmt.{length-decimal-le}
use Rattle.std.proofs.lemmas.Slice.Eq.{bytes_eq-Decides}
use Rattle.price_core.specs.Ranges.{IsPrice}
use Rattle.cross_core.specs.declared.order.Order.{Order}
use Rattle.wire_core.specs.Fields.{checked}
use Rattle.wire_core.specs.OptionSteps.{◌>>=◌}
use Rattle.text_core.specs.Lines.{line_of}
use Rattle.text_core.specs.Reading.{moment_in, number16_in, number32_in, optional_price_in, price_in}
use Rattle.text_core.specs.Words.{optional_price_word, price_word, time_word}
use Rattle.text_core.proofs.Fields.{moment_again, number16_again, number32_again, optional_again, price_again}
use Rattle.text_core.proofs.Plain.{decimal_plain, optional_plain, plain, price_digits, price_plain, time_digits, time_plain, IsPlain}
use Rattle.text_core.proofs.Words.{ArePlain, followed_is, found, further}
use Rattle.auction_core.specs.declared.auction.Auction.{Auction}
use Rattle.auction_core.specs.Laws.{AuctionsAreRead, OrdersAreRead}
use Rattle.auction_core.specs.Lines.{PrintsAuction, PrintsOrder, line_of_auction, line_of_order, side_word, words_of_auction, words_of_order}
use Rattle.auction_core.specs.Reading.{auction_in, auction_of, is_line_of_auction, is_line_of_order, order_in, order_of, side_in}

-- How long lines are.

-- how many bytes words take with a blank before each
abbrev spaced : List (List ℕ) → ℕ
spaced [] = 0
spaced (word ∷ words) = 1 + length word + spaced words

further_length : (words : List (List ℕ)) → length (further words) ≡ spaced words
further_length [] = refl
further_length (word ∷ words) = omega (arith, length-append word (further words), further_length words)

line_length : (word : List ℕ) (words : List (List ℕ)) → length (line_of (word ∷ words)) ≡ length word + spaced words
line_length word words = ap length (followed_is word words) ∙ length-append word (further words) ∙ ap (λ (n : ℕ). length word + n) (further_length words)

time_length : (t : ℕ) → length (time_word t) ≡ 18
time_length t = ap length (time_digits t)

price_length : (p : ℕ) → IsPrice p → length (price_word p) ≤ 12
price_length p range =
    let all = ap length (price_digits p) ∙ length-append (decimal (p / 10000)) _ in
    let few = length-decimal-le 7 (p / 10000) (omega arith) (omega (arith, range.most)) (omega (arith, range.most)) in
    omega (arith, all, few)

optional_length : (p : Option ℕ) → IfSome p IsPrice → length (optional_price_word p) ≤ 12
optional_length None range = omega arith
optional_length (Some p) range = price_length p range

side_length : (buy : Bool) → length (side_word buy) ≤ 4
side_length true = omega arith
side_length false = omega arith

-- a line that is compared with itself
same_bytes : (line : List ℕ) → bytes_eq line line ≡ true
same_bytes line = (bytes_eq-Decides line line).1 refl

short_true : (n : ℕ) (b : Bool) → n ≤ 255 → b ≡ true → (nat_le n 255 && b) ≡ true
short_true n b le is = rw is (by n le) where
  by : (n : ℕ) → n ≤ 255 → (nat_le n 255 && true) ≡ true
  by n le = grind (arith, nat_tests)

order_true : (l u : ℕ) (b : Bool) → l ≤ u → b ≡ true → (nat_le l u && b) ≡ true
order_true l u b le is = rw is (by l u le) where
  by : (l u : ℕ) → l ≤ u → (nat_le l u && true) ≡ true
  by l u le = grind (arith, nat_tests)

-- Auctions.

module _ (line : List ℕ) (a : Auction) (prints : PrintsAuction line a) where
  auction_plain : ArePlain (words_of_auction a)
  auction_plain = (
    plain _ refl,
    (
      time_plain a.moment,
      (
        decimal_plain a.symbol (omega (arith, prints.symbol)),
        (
          price_plain a.reference (omega (arith, prints.reference.most)),
          (price_plain a.collars.lower (omega (arith, prints.lower.most)), (price_plain a.collars.upper (omega (arith, prints.upper.most)), tt)),
        ),
      ),
    ),
  )

  auction_short : length (line_of_auction a) ≤ 255
  auction_short =
      let symbol = length-decimal-le 5 a.symbol (omega arith) (omega (arith, prints.symbol)) (omega (arith, prints.symbol)) in
      let whole : length (line_of_auction a) ≡ 7 + spaced (time_word a.moment ∷ decimal a.symbol ∷ price_word a.reference ∷ price_word a.collars.lower ∷ price_word a.collars.upper ∷ []) = line_length (codes "auction") (time_word a.moment ∷ decimal a.symbol ∷ price_word a.reference ∷ price_word a.collars.lower ∷ price_word a.collars.upper ∷ []) in
      omega (arith, whole, time_length a.moment, symbol, price_length a.reference prints.reference, price_length a.collars.lower prints.lower, price_length a.collars.upper prints.upper)

  auction_found : auction_of (line_of_auction a) ≡ Some a
  unfolding auction_of
  auction_found =
      let words = words_of_auction a in
      let at_1 = found moment_in a.moment 1 words auction_plain (moment_again a.moment prints.moment) in
      let at_2 = found number16_in a.symbol 2 words auction_plain (number16_again a.symbol prints.symbol) in
      let at_3 = found price_in a.reference 3 words auction_plain (price_again a.reference prints.reference) in
      let at_4 = found price_in a.collars.lower 4 words auction_plain (price_again a.collars.lower prints.lower) in
      let at_5 = found price_in a.collars.upper 5 words auction_plain (price_again a.collars.upper prints.upper) in
      rw (at_1, at_2, at_3, at_4, at_5) refl

  auction_passes : is_line_of_auction (line_of_auction a) a ≡ true
  auction_passes = short_true (length (line_of_auction a)) _ auction_short (order_true a.collars.lower a.collars.upper _ prints.order (same_bytes (line_of_auction a)))

  auction_read : auction_in (line_of_auction a) ≡ Some a
  unfolding auction_in
  auction_read =
      ap (λ (r : Option Auction). r >>= (λ x. checked (is_line_of_auction (line_of_auction a) x) x)) auction_found
      ∙ ap (λ (b : Bool). checked b a) auction_passes

pub auctions_are_read : AuctionsAreRead
auctions_are_read line a prints = ap auction_in prints.text ∙ auction_read line a prints

-- Orders.

side_plain : (buy : Bool) → IsPlain (side_word buy)
side_plain true = plain _ refl
side_plain false = plain _ refl

side_again : (buy : Bool) → side_in (side_word buy) ≡ Some buy
side_again true = refl
side_again false = refl

module _ (line : List ℕ) (o : Order) (prints : PrintsOrder line o) where
  order_plain : ArePlain (words_of_order o)
  order_plain = (plain _ refl, (side_plain o.buy, (optional_plain o.price prints.price, (decimal_plain o.size (omega (arith, prints.size)), tt))))

  order_short : length (line_of_order o) ≤ 255
  order_short =
      let size = length-decimal-le 10 o.size (omega arith) (omega (arith, prints.size)) (omega (arith, prints.size)) in
      let whole : length (line_of_order o) ≡ 5 + spaced (side_word o.buy ∷ optional_price_word o.price ∷ decimal o.size ∷ []) = line_length (codes "order") (side_word o.buy ∷ optional_price_word o.price ∷ decimal o.size ∷ []) in
      omega (arith, whole, side_length o.buy, optional_length o.price prints.price, size)

  order_found : order_of (line_of_order o) ≡ Some o
  unfolding order_of
  order_found =
      let words = words_of_order o in
      let at_1 = found side_in o.buy 1 words order_plain (side_again o.buy) in
      let at_2 = found optional_price_in o.price 2 words order_plain (optional_again o.price prints.price) in
      let at_3 = found number32_in o.size 3 words order_plain (number32_again o.size prints.size) in
      rw (at_1, at_2, at_3) refl

  order_passes : is_line_of_order (line_of_order o) o ≡ true
  order_passes = short_true (length (line_of_order o)) _ order_short (same_bytes (line_of_order o))

  order_read : order_in (line_of_order o) ≡ Some o
  unfolding order_in
  order_read =
      ap (λ (r : Option Order). r >>= (λ x. checked (is_line_of_order (line_of_order o) x) x)) order_found
      ∙ ap (λ (b : Bool). checked b o) order_passes

pub orders_are_read : OrdersAreRead
orders_are_read line o prints = ap order_in prints.text ∙ order_read line o prints
