-- Worked examples of days, computed by the definitions.
use Rattle.std.specs.Prelude.{◌≡◌, ℕ, Some, List, [], ◌∷◌, refl, reverse, ◌++◌, ◌+◌, ◌-◌, map, true, false}
use Rattle.wire_in.specs.declared.record.Record.{Record}
use Rattle.wire_in.specs.declared.record.Record.TheVariants as in_
use Rattle.wire_in.specs.declared.record.NoticeKind.TheVariants as notice
use Rattle.wire_out.specs.declared.message.Message.{Message}
use Rattle.wire_out.specs.declared.message.Message.TheVariants as out
use Rattle.wire_out.specs.declared.message.ShortKind.TheVariants as short
use Rattle.price_core.specs.declared.quote.Tier.{Tier}
use Rattle.price_core.specs.declared.quote.Tier.TheVariants as tier
use Rattle.price_core.specs.declared.quote.Cause.TheVariants as cause
use Rattle.price_core.specs.declared.quote.Unmatched.TheVariants.{Nothing, Sell}
use Rattle.session_core.specs.declared.day.Close.TheVariants.{Regular}
use Rattle.session_core.specs.declared.day.Profile.TheVariants.{Since18, Before18}
use Rattle.session_core.specs.declared.state.Phase.TheVariants as phase
use Rattle.session_core.specs.declared.state.Level.TheVariants as level
use Rattle.session_core.specs.Moments.{seconds}
use Rattle.rulebook.specs.Book.{messages_of}

abbrev abc : List ℕ
abc = 65 ∷ 66 ∷ 67 ∷ 0 ∷ 0 ∷ 0 ∷ 0 ∷ 0 ∷ []

abbrev day : Record
day = in_.Day (seconds 14400) (record { date = record { year = 2024; month = 6; day = 3 }; close = Regular; profile = Since18 }) 500000

abbrev listing : Record
listing = in_.Listing (seconds 14400) abc tier.One 10 (Some 500000)

abbrev f : List Record
f = day ∷ listing ∷ []

abbrev open_trade : Record
open_trade = in_.Trade (seconds 34200) 0 1 500000 100 1

abbrev morning : List Record
morning = f ++ in_.Clock (seconds 34200) ∷ open_trade ∷ []

abbrev said : List Record → List Message
said xs = map (λ m. m.message) (messages_of (reverse xs))

abbrev opening : List Message
opening = out.Listed 0 abc ∷ out.State 0 phase.Trading ∷ out.Band 0 cause.First 500000 475000 525000 ∷ []

opened : said morning ≡ opening
opened = refl

-- a market-wide circuit breaker at exactly 7 per cent
level_one : said (day ∷ in_.IndexTick (seconds 36000) 465001 ∷ in_.IndexTick (seconds 36000) 465000 ∷ []) ≡ out.Breaker level.One 465000 ∷ []
level_one = refl

last_minute : said (day ∷ in_.IndexTick (seconds 55500) 435000 ∷ in_.Clock (seconds 56400) ∷ []) ≡ out.Breaker level.Two 435000 ∷ out.MarketResume ∷ []
last_minute = refl

too_late : said (day ∷ in_.IndexTick (seconds 55500 + 1) 435000 ∷ in_.IndexTick (seconds 57540) 400000 ∷ in_.Clock (seconds 59400) ∷ []) ≡ out.Breaker level.Three 400000 ∷ []
too_late = refl

-- bands double in the last 25 minutes
doubled : said (morning ++ in_.Clock (seconds 56100) ∷ []) ≡ opening ++ out.Band 0 cause.Times 500000 450000 550000 ∷ []
doubled = refl

-- a limit state of 15 seconds becomes a pause
abbrev at_lower : Record
at_lower = in_.Quote (seconds 36000) 0 (Some 474900) (Some 475000) 1 1

abbrev limit : List Record
limit = morning ++ at_lower ∷ in_.Trade (seconds 36005) 0 2 475000 100 0 ∷ []

left : said (limit ++ in_.Quote (14999999999 + seconds 36000) 0 (Some 474900) (Some 476000) 1 1 ∷ [])
    ≡ opening ++ out.State 0 phase.LimitLow ∷ out.State 0 phase.Trading ∷ out.Band 0 cause.Forced 475000 451300 498800 ∷ []
left = refl

abbrev paused : List Record
paused = limit ++ in_.Quote (seconds 36015) 0 (Some 474900) (Some 476000) 1 1 ∷ []

abbrev pausing : List Message
pausing = opening ++ out.State 0 phase.LimitLow ∷ out.State 0 phase.Paused ∷ out.Collar 0 0 451200 525000 ∷ []

paused_then : said paused ≡ pausing
paused_then = refl

reopened : said (paused ++ in_.Indication (seconds 36180) 0 440000 Nothing ∷ in_.Clock (seconds 36315) ∷ in_.Clock (seconds 36615) ∷ [])
    ≡ pausing ++ out.Collar 0 1 427400 525000 ∷ out.Release 0 440000 ∷ out.State 0 phase.Trading ∷ out.Band 0 cause.First 440000 418000 462000 ∷ []
reopened = refl

-- a straddle, and the pause that is asked for
straddled : said (morning ++ in_.Quote (seconds 36000) 0 (Some 474000) (Some 480000) 1 1 ∷ in_.Notice (seconds 36005) 0 notice.PauseNow ∷ in_.Clock (seconds 36305) ∷ [])
    ≡ opening ++ out.Straddle 0 true ∷ out.State 0 phase.Paused ∷ out.Collar 0 0 475000 525000 ∷ out.Straddle 0 false
    ∷ out.Release 0 500000 ∷ out.State 0 phase.Trading ∷ out.Band 0 cause.First 500000 475000 525000 ∷ []
straddled = refl

-- the short sale restriction is carried over one day
abbrev twenty : ℕ → Record
twenty t = in_.Listing (seconds t) abc tier.One 10 (Some 200000)

abbrev next_day : ℕ → Record
next_day d = in_.Day (seconds 14400) (record { date = record { year = 2024; month = 6; day = d }; close = Regular; profile = Since18 }) 500000

carried : said (day ∷ twenty 14400 ∷ in_.Clock (seconds 34200) ∷ in_.Trade (seconds 36000) 0 1 180001 1 0 ∷ in_.Trade (seconds 36000) 0 2 180000 1 0 ∷ in_.Trade (seconds 36000) 0 3 180000 1 0
    ∷ next_day 4 ∷ twenty 14400 ∷ next_day 5 ∷ twenty 14400 ∷ [])
    ≡ out.Listed 0 abc ∷ out.State 0 phase.Trading ∷ out.Band 0 cause.First 180001 171000 189000 ∷ out.Short 0 short.Triggered ∷ out.Listed 0 abc ∷ out.Short 0 short.Carried ∷ out.Listed 0 abc ∷ []
carried = refl

-- a market-wide record alone finds the pause late, and holds no trial at once
found_late : said (morning ++ at_lower ∷ in_.Clock (seconds 36720) ∷ []) ≡ pausing
found_late = refl

moved : said (morning ++ in_.Trade (seconds 34230 - 1) 0 2 510000 100 0 ∷ in_.Clock (seconds 34230) ∷ []) ≡ opening ++ out.Band 0 cause.Moved 505000 479800 530300 ∷ []
moved = refl

moved_too_little : said (morning ++ in_.Trade (seconds 34230 - 1) 0 2 509998 100 0 ∷ in_.Clock (seconds 34230) ∷ []) ≡ opening
moved_too_little = refl

abbrev two_trades : List Record
two_trades = f ++ in_.Clock (seconds 34200) ∷ in_.Trade (seconds 34200) 0 1 490000 100 0 ∷ in_.Trade (seconds 34200 + 1) 0 2 500000 100 0 ∷ []

abbrev begun : List Message
begun = out.Listed 0 abc ∷ out.State 0 phase.Trading ∷ []

five_minutes : said (two_trades ++ in_.Clock (seconds 34500) ∷ in_.Cancel (seconds 34500) 0 2 ∷ in_.Clock (seconds 34530) ∷ []) ≡ begun ++ out.Band 0 cause.First 500000 475000 525000 ∷ []
five_minutes = refl

cancelled : said (two_trades ++ in_.Cancel (seconds 34499) 0 2 ∷ in_.Clock (seconds 34500) ∷ in_.Trade (seconds 34560) 0 3 480000 100 0 ∷ []) ≡ begun ++ out.Band 0 cause.First 480000 456000 504000 ∷ []
cancelled = refl

tier_two : said (day ∷ in_.Listing (seconds 14400) abc tier.Two 10 (Some 100000) ∷ in_.Clock (seconds 34200) ∷ in_.Trade (seconds 34200) 0 1 100500 100 1 ∷ []) ≡ begun ++ out.Band 0 cause.First 100500 90500 110600 ∷ []
tier_two = refl

low_priced : said (day ∷ in_.Listing (seconds 14400) abc tier.Two 20 (Some 7000) ∷ in_.Clock (seconds 34200) ∷ in_.Trade (seconds 34200) 0 1 7000 100 1 ∷ in_.Clock (seconds 56100) ∷ [])
    ≡ begun ++ out.Band 0 cause.First 7000 4000 10000 ∷ out.Band 0 cause.Times 7000 1000 13000 ∷ []
low_priced = refl

a_cent : said (day ∷ in_.Listing (seconds 14400) abc tier.Two 10 (Some 100) ∷ in_.Clock (seconds 34200) ∷ in_.Trade (seconds 34200) 0 1 100 100 1 ∷ []) ≡ begun ++ out.Band 0 cause.First 100 100 200 ∷ []
a_cent = refl

market_halt : said (morning ++ at_lower ∷ in_.IndexTick (seconds 36015) 465000 ∷ in_.Notice (seconds 36015) 0 notice.PauseNow ∷ in_.Clock (seconds 36915) ∷ [])
    ≡ opening ++ out.State 0 phase.LimitLow ∷ out.Breaker level.One 465000 ∷ out.State 0 phase.Stopped ∷ out.MarketResume ∷ out.State 0 phase.Trading ∷ []
market_halt = refl

closing : said (morning ++ in_.Clock (seconds 56100) ∷ in_.Quote (seconds 56985) 0 (Some 449900) (Some 450000) 1 1 ∷ in_.Clock (seconds 57000) ∷ in_.Clock (seconds 57600) ∷ [])
    ≡ opening ++ out.Band 0 cause.Times 500000 450000 550000 ∷ out.State 0 phase.LimitLow ∷ out.State 0 phase.Closing ∷ out.State 0 phase.Closed ∷ []
closing = refl

closing_auction : said (morning ++ in_.Clock (seconds 56100) ∷ in_.Quote (seconds 56985 - 1) 0 (Some 449900) (Some 450000) 1 1 ∷ in_.Clock (seconds 57000 - 1) ∷ in_.Clock (seconds 57300 - 1) ∷ [])
    ≡ opening ++ out.Band 0 cause.Times 500000 450000 550000 ∷ out.State 0 phase.LimitLow ∷ out.State 0 phase.Paused ∷ out.Collar 0 0 427500 550000 ∷ out.State 0 phase.Closing ∷ []
closing_auction = refl

halted : said (morning ++ in_.Notice (seconds 36000) 0 notice.Halt ∷ in_.Notice (seconds 36600) 0 notice.Resume ∷ in_.Trade (seconds 36720) 0 2 490000 100 1 ∷ [])
    ≡ opening ++ out.State 0 phase.Halted ∷ out.State 0 phase.Trading ∷ out.Band 0 cause.First 490000 465500 514500 ∷ []
halted = refl

on_quotations : said (f ++ in_.Clock (seconds 34200) ∷ in_.Notice (seconds 34260) 0 notice.OpenQuote ∷ []) ≡ opening
on_quotations = refl

odd_lot : said (f ++ in_.Clock (seconds 34200) ∷ in_.Trade (seconds 34200) 0 1 500000 100 3 ∷ in_.Clock (seconds 34500) ∷ []) ≡ begun
odd_lot = refl

unmatched_sell : said (paused ++ in_.Indication (seconds 36180) 0 470000 Sell ∷ in_.Clock (seconds 36315) ∷ []) ≡ pausing ++ out.Collar 0 1 427400 525000 ∷ []
unmatched_sell = refl

above_the_collar : said (paused ++ in_.Indication (seconds 36180) 0 530000 Sell ∷ in_.Clock (seconds 36315) ∷ []) ≡ pausing ++ out.Collar 0 1 451200 548800 ∷ []
above_the_collar = refl

halted_and_stopped : said (morning ++ in_.Notice (seconds 36000) 0 notice.Halt ∷ in_.IndexTick (seconds 36001) 465000 ∷ in_.Notice (seconds 36002) 0 notice.Resume ∷ in_.Clock (seconds 36901) ∷ [])
    ≡ opening ++ out.State 0 phase.Halted ∷ out.Breaker level.One 465000 ∷ out.State 0 phase.Stopped ∷ out.MarketResume ∷ out.State 0 phase.Trading ∷ []
halted_and_stopped = refl

halted_before_the_session : said (f ++ in_.Notice (seconds 32400) 0 notice.Halt ∷ in_.Notice (seconds 33000) 0 notice.Resume ∷ in_.Clock (seconds 34200) ∷ [])
    ≡ out.Listed 0 abc ∷ out.State 0 phase.Halted ∷ out.State 0 phase.Shut ∷ out.State 0 phase.Trading ∷ []
halted_before_the_session = refl

window_moves : said (morning ++ in_.Trade (seconds 34260) 0 2 520000 100 0 ∷ in_.Clock (seconds 34500 - 1) ∷ in_.Clock (seconds 34500) ∷ [])
    ≡ opening ++ out.Band 0 cause.Moved 510000 484500 535500 ∷ out.Band 0 cause.Moved 520000 494000 546000 ∷ []
window_moves = refl

abbrev older_day : Record
older_day = in_.Day (seconds 14400) (record { date = record { year = 2024; month = 6; day = 3 }; close = Regular; profile = Before18 }) 500000

abbrev old_profile : Tier → ℕ → List Record
old_profile t close =
    older_day ∷ in_.Listing (seconds 14400) abc t 10 (Some close) ∷ in_.Clock (seconds 34200) ∷ in_.Trade (seconds 34200) 0 1 close 100 1
    ∷ in_.Clock (seconds 35100 - 1) ∷ in_.Clock (seconds 35100) ∷ in_.Clock (seconds 56100 - 1) ∷ in_.Clock (seconds 56100) ∷ []

before_tier_one : said (old_profile tier.One 500000) ≡ begun ++ out.Band 0 cause.First 500000 450000 550000 ∷ out.Band 0 cause.Times 500000 475000 525000 ∷ out.Band 0 cause.Times 500000 450000 550000 ∷ []
before_tier_one = refl

before_tier_two : said (old_profile tier.Two 200000) ≡ begun ++ out.Band 0 cause.First 200000 160000 240000 ∷ out.Band 0 cause.Times 200000 180000 220000 ∷ out.Band 0 cause.Times 200000 160000 240000 ∷ []
before_tier_two = refl

before_low_priced : said (old_profile tier.Two 7000) ≡ begun ++ out.Band 0 cause.First 7000 4000 10000 ∷ out.Band 0 cause.Times 7000 5500 8500 ∷ out.Band 0 cause.Times 7000 4000 10000 ∷ []
before_low_priced = refl

-- the percentages are those of the last day
last_profile : said (older_day ∷ next_day 4 ∷ listing ∷ in_.Clock (seconds 34200) ∷ open_trade ∷ []) ≡ opening
last_profile = refl
