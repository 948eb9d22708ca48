-- The words that stand in the picture.
use Rattle.std.specs.Prelude.{ℕ, ◌-◌, ◌/◌, ◌%◌, ◌^◌, false, ◌==◌, if◌then◌else◌, List, [], ◌++◌, codes, decimal}
use Rattle.std.specs.Fmt.{padded_integral, format_spec}
use Rattle.price_core.specs.declared.quote.Unmatched.{Unmatched}
use Rattle.price_core.specs.declared.quote.Unmatched.TheVariants.{Nothing, Buy, Sell}

-- one text, and then the other
infixr 66 ◌⊕◌
abbrev pub ◌⊕◌ : List ℕ → List ℕ → List ℕ
first ⊕ second = first ++ second

-- a number with zeros before it, up to so many digits
abbrev pub with_digits : ℕ → ℕ → List ℕ
with_digits count n = padded_integral (format_spec 32 0 4 count (2 ^ 64 - 1)) false [] (decimal n)

-- ten-thousandths of a dollar as cents, with four digits where they are no whole number of cents
abbrev pub cents_text : ℕ → List ℕ
cents_text rest = if rest % 100 == 0 then with_digits 2 (rest / 100) else with_digits 4 rest

-- a price in dollars and cents
unfoldable pub dollars_text : ℕ → List ℕ
dollars_text units = decimal (units / 10000) ⊕ codes "." ⊕ cents_text (units % 10000)

-- a moment in hours, minutes and seconds
unfoldable pub time_text : ℕ → List ℕ
time_text moment =
    with_digits 2 (moment / 1000000000 / 3600) ⊕ codes ":" ⊕ with_digits 2 (moment / 1000000000 / 60 % 60)
    ⊕ codes ":" ⊕ with_digits 2 (moment / 1000000000 % 60)

-- on which side market orders are left
abbrev pub left_text : Unmatched → List ℕ
left_text Nothing = codes "no market order is left"
left_text Buy = codes "market orders that buy are left"
left_text Sell = codes "market orders that sell are left"

-- what the picture is of
unfoldable pub title : ℕ → ℕ → List ℕ
title symbol moment = codes "Auction of symbol " ⊕ decimal symbol ⊕ codes " at " ⊕ time_text moment

-- what came of it
unfoldable pub outcome_text : ℕ → ℕ → ℕ → Unmatched → List ℕ
outcome_text price volume imbalance left =
    codes "at " ⊕ dollars_text price ⊕ codes " dollars " ⊕ decimal volume ⊕ codes " shares change hands; the sums of buys and sells differ by "
    ⊕ decimal imbalance ⊕ codes "; " ⊕ left_text left
