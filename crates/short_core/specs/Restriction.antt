-- The short sale restriction of a stock (17 CFR 242.201).
use Rattle.std.specs.Prelude.{ℕ, Bool, false, Option, List, [], ◌∷◌, ◌*◌, nat_le, ◌||◌}
use Rattle.std.specs.List.{list_any}
use Rattle.std.specs.Option.{option_map_or}

-- a price is at least 10 per cent below the prior close
abbrev pub fell_ten_percent : ℕ → ℕ → Bool
fell_ten_percent price prior_close = nat_le (10 * price) (9 * prior_close)

-- whether a trade at that price triggers the restriction, which none does where there is no prior close
abbrev pub triggers : Option ℕ → ℕ → Bool
triggers prior_close price = option_map_or (fell_ten_percent price) prior_close false

-- an eligible trade: its price, and the prior close that is listed by then
pub record Trade : Type 0 where
  pub price : ℕ
  pub prior_close : Option ℕ

-- a day of the stock: the prior close that is listed, and its eligible trades, the newest first
pub record Trades : Type 0 where
  pub prior_close : Option ℕ
  pub trades : List Trade

-- the day with another prior close, for the trades to come
abbrev pub relisted : Option ℕ → Trades → Trades
relisted prior_close day = record day { prior_close = prior_close }

-- the day with one more trade
abbrev pub traded : ℕ → Trades → Trades
traded price day = record day { trades = record { price = price; prior_close = day.prior_close } ∷ day.trades }

-- a trade of the day triggers it
abbrev pub has_triggered : Trades → Bool
has_triggered day = list_any (λ trade. triggers trade.prior_close trade.price) day.trades

-- whether the day after these days, the newest first, carries the restriction: the last of them triggered it
abbrev pub is_carried : List Trades → Bool
is_carried [] = false
is_carried (last ∷ earlier) = has_triggered last

-- for the rest of the day and the following day
abbrev pub is_restricted : Trades → List Trades → Bool
is_restricted day earlier = has_triggered day || is_carried earlier
