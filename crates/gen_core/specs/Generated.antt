-- The generated day: the list of records of a plan. Prices are ten-thousandths of a dollar, index values hundredths, and
-- moments nanoseconds. All divisions are downwards.
use Rattle.std.specs.Prelude.{◌≡◌, ℕ, zero, suc, ◌+◌, ◌-◌, ◌*◌, ◌/◌, ◌%◌, ◌≤◌, Bool, false, not, nat_le, ◌==◌, ◌||◌, if◌then◌else◌, List, [], ◌∷◌, ◌++◌, Option, Some, None, sum_by}
use Rattle.std.specs.List.{list_any}
use Rattle.price_core.specs.declared.quote.Tier.{Tier}
use Rattle.price_core.specs.declared.quote.Tier.TheVariants.{One, Two}
use Rattle.session_core.specs.Dates.{digit}
use Rattle.session_core.specs.Moments.{seconds}
use Rattle.session_core.specs.declared.day.Close.TheVariants.{Regular}
use Rattle.session_core.specs.declared.day.Profile.TheVariants.{Since18}
use Rattle.wire_in.specs.declared.record.Record.{Record}
use Rattle.wire_in.specs.declared.record.Record.TheVariants.{Day, Listing, Trade, Quote, IndexTick, Clock}
use Rattle.gen_core.specs.declared.plan.DayPlan.{DayPlan}
use Rattle.gen_core.specs.Draws.{draw, number_after}

-- the numbers that a plan may have
pub record IsPlan (plan : DayPlan) : Type 0 where
  pub some_symbol : 1 ≤ plan.symbols
  pub few_symbols : plan.symbols ≤ 16384
  pub few_records : plan.records ≤ 100000000

-- the day begins at 04:00:00
unfoldable pub day_record : Record
day_record = Day (seconds 14400) (record { date = record { year = 2024; month = 6; day = 3 }; close = Regular; profile = Since18 }) 500000

-- the prior close of a symbol
abbrev pub close_of : ℕ → ℕ
close_of symbol = 200000 + 100 * symbol

-- the letter S, the symbol's id in five digits, and two zero bytes
abbrev pub name_of : ℕ → List ℕ
name_of symbol = 83 ∷ digit (symbol / 10000) ∷ digit (symbol / 1000) ∷ digit (symbol / 100) ∷ digit (symbol / 10) ∷ digit symbol ∷ 0 ∷ 0 ∷ []

abbrev pub tier_of : ℕ → Tier
tier_of symbol = if symbol % 2 == 0 then One else Two

-- the listing of a symbol, a stock of leverage 1
unfoldable pub listing : ℕ → Record
listing symbol = Listing (seconds 14400) (name_of symbol) (tier_of symbol) 10 (Some (close_of symbol))

-- the listings of the first symbols
unfoldable pub listings : ℕ → List Record
listings zero = []
listings (suc symbol) = listings symbol ++ listing symbol ∷ []

-- the moments of the other records are spread over the 23,400 seconds from 09:30:00 on
abbrev pub moment_of : DayPlan → ℕ → ℕ
moment_of plan k = seconds 34200 + k * (seconds 23400 / plan.records)

abbrev pub second_of : ℕ → ℕ
second_of moment = moment / seconds 1

-- the first record is a clock, and so is each at which another second begins
abbrev pub is_clock : DayPlan → ℕ → Bool
is_clock plan k = k == 0 || not (second_of (moment_of plan k) == second_of (moment_of plan (k - 1)))

-- an index value up to 7.2 percent below the prior close, from a draw
abbrev pub index_tick : ℕ → ℕ → Record
index_tick moment drawn = IndexTick moment (500000 - drawn % 36000)

-- the middle of a quotation, up to 6 percent from the prior close, from a draw
abbrev pub middle : ℕ → ℕ → ℕ
middle close drawn = close - (6 * close) / 100 + drawn % ((12 * close) / 100 + 1)

-- a quotation two cents wide
abbrev pub quote : ℕ → ℕ → ℕ → Record
quote moment symbol drawn = Quote moment symbol (Some (middle (close_of symbol) drawn - 100)) (Some (middle (close_of symbol) drawn + 100)) 100 100

-- the price of a trade, up to 4 percent from the prior close, from a draw
abbrev pub traded_price : ℕ → ℕ → ℕ
traded_price close drawn = close - close / 25 + drawn % (2 * (close / 25) + 1)

-- the flags of a trade: the first trade of a symbol is its opening trade
abbrev pub flags_of : Bool → ℕ
flags_of has_traded = if has_traded then 0 else 1

-- a trade, whose number is that of the record
abbrev pub trade : ℕ → ℕ → ℕ → ℕ → ℕ → Record
trade moment symbol k flags drawn = Trade moment symbol k (traded_price (close_of symbol) drawn) 100 flags

-- the record k of a kind: 0 is an index tick, 1 to 9 are quotations, 10 to 15 are trades
abbrev pub record_of_kind : ℕ → ℕ → ℕ → ℕ → ℕ → ℕ → ℕ → Record
record_of_kind kind moment k symbol flags second third =
    if kind == 0 then index_tick moment second
    else if nat_le kind 9 then quote moment symbol third
    else trade moment symbol k flags third

-- the symbol that the record is of, if it is of one: the second draw says it
abbrev pub symbol_drawn : DayPlan → ℕ → ℕ
symbol_drawn plan number = draw number 2 % plan.symbols

-- the record k, where the draws go on from a number, and a trade has these flags
abbrev pub session_record : DayPlan → ℕ → ℕ → ℕ → Record
session_record plan k number flags =
    if is_clock plan k then Clock (moment_of plan k)
    else record_of_kind (draw number 1 % 16) (moment_of plan k) k (symbol_drawn plan number) flags (draw number 2) (draw number 3)

-- how many draws a record takes
abbrev pub draws_of : Record → ℕ
draws_of (IndexTick m v) = 2
draws_of (Quote m s b o y z) = 3
draws_of (Trade m s n p z f) = 3
draws_of _ = 0

-- the number that the draws have come to after these records
abbrev pub number_behind : DayPlan → List Record → ℕ
number_behind plan records = number_after plan.seed (sum_by draws_of records)

abbrev pub is_trade_of : ℕ → Record → Bool
is_trade_of symbol (Trade m s n p z f) = s == symbol
is_trade_of symbol _ = false

-- the flags of a trade of a symbol behind these records
abbrev pub flags_behind : List Record → ℕ → ℕ
flags_behind records symbol = flags_of (list_any (is_trade_of symbol) records)

-- the record k behind those before it
unfoldable pub record_behind : DayPlan → List Record → ℕ → Record
record_behind plan before k = session_record plan k (number_behind plan before) (flags_behind before (symbol_drawn plan (number_behind plan before)))

-- the first records of the session
unfoldable pub session_records : DayPlan → ℕ → List Record
session_records plan zero = []
session_records plan (suc k) = session_records plan k ++ record_behind plan (session_records plan k) k ∷ []

-- the day, the listings, and the records of the session
unfoldable pub generated : DayPlan → List Record
generated plan = day_record ∷ listings plan.symbols ++ session_records plan plan.records

-- the first of the records that are left is given; none exactly where none is left
abbrev pub GivesFirst : Option Record → List Record → List Record → Type 0
GivesFirst (Some x) old new = old ≡ x ∷ new
GivesFirst None old new = (old ≡ []) × (new ≡ [])
