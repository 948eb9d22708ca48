-- Which trades count: in the session, and with no condition bit that bars them.
use Rattle.std.specs.Prelude.{ℕ, Bool, true, false, ◌==◌, ◌&&◌, nat_lt, not, if◌then◌else◌, bit_and}
use Rattle.std.specs.List.{list_any, range_with_len}
use Rattle.std.specs.Int.{bit_at}
use Rattle.session_core.specs.declared.day.Day.{Day}
use Rattle.session_core.specs.Times.{in_session}
use Rattle.eligible_core.specs.declared.condition.Condition.{Condition}
use Rattle.eligible_core.specs.declared.condition.Condition.TheVariants.{BarsNothing, Bars, NotAssigned}

-- the condition bits that bar a trade: odd lot, out of sequence, average price, settlement that isn't regular, extended hours, contingent, derivatively priced
abbrev pub barring_bits : ℕ
barring_bits = 254

-- a trade counts in the session and where it has none of them
abbrev pub eligible : ℕ → ℕ → Day → Bool
eligible flags t day = in_session t day && (bit_and flags barring_bits == 0)

-- an opening or reopening trade of the primary listing exchange
abbrev pub is_opening_trade : ℕ → Bool
is_opening_trade flags = not (bit_and flags 1 == 0)

-- The same, bit by bit.

-- the bit of that number is 1
abbrev pub is_set : ℕ → ℕ → Bool
is_set flags bit = bit_at flags bit == 1

-- what each bit says: the ten lowest are assigned
abbrev pub condition_of : ℕ → Condition
condition_of bit = if is_set barring_bits bit then Bars else if nat_lt bit 10 then BarsNothing else NotAssigned

-- the answers of the table: 0 for a bit that bars nothing, 1 for one that bars the trade, 2 for one that isn't assigned
abbrev pub condition_at : ℕ → Condition
condition_at answer = if answer == 0 then BarsNothing else if answer == 1 then Bars else NotAssigned

-- it bars the trade
abbrev pub is_barring : Condition → Bool
is_barring Bars = true
is_barring c = false

-- one of the sixteen bits is set and bars the trade
abbrev pub has_barring_bit : ℕ → Bool
has_barring_bit flags = list_any (λ bit. is_set flags bit && is_barring (condition_of bit)) (range_with_len 0 16)
