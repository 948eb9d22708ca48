-- The words of lines: how each value is written, in ASCII.
use Rattle.std.specs.Prelude.{ℕ, zero, suc, ◌+◌, ◌/◌, ◌%◌, nat_lt, if◌then◌else◌, Bool, true, false, List, [], ◌∷◌, ◌++◌, take, Option, Some, None, codes, decimal}
use Rattle.price_core.specs.declared.quote.Cause.{Cause}
use Rattle.price_core.specs.declared.quote.Cause.TheVariants as causes
use Rattle.price_core.specs.declared.quote.Tier.{Tier}
use Rattle.price_core.specs.declared.quote.Tier.TheVariants as tiers
use Rattle.price_core.specs.declared.quote.Unmatched.{Unmatched}
use Rattle.price_core.specs.declared.quote.Unmatched.TheVariants as sides
use Rattle.session_core.specs.Dates.{Civil, digit}
use Rattle.session_core.specs.declared.day.Close.{Close}
use Rattle.session_core.specs.declared.day.Close.TheVariants as closes
use Rattle.session_core.specs.declared.day.Profile.{Profile}
use Rattle.session_core.specs.declared.day.Profile.TheVariants as profiles
use Rattle.session_core.specs.declared.state.Level.{Level}
use Rattle.session_core.specs.declared.state.Level.TheVariants as levels
use Rattle.session_core.specs.declared.state.Phase.{Phase}
use Rattle.session_core.specs.declared.state.Phase.TheVariants as phases
use Rattle.wire_core.specs.Names.{visible_count}
use Rattle.wire_in.specs.declared.record.NoticeKind.{NoticeKind}
use Rattle.wire_in.specs.declared.record.NoticeKind.TheVariants as kinds
use Rattle.wire_out.specs.declared.message.ShortKind.{ShortKind}
use Rattle.wire_out.specs.declared.message.ShortKind.TheVariants as shorts

-- the last decimal digits of a number, as many as asked for
unfoldable pub last_digits : ℕ → ℕ → List ℕ
last_digits zero n = []
last_digits (suc k) n = last_digits k (n / 10) ++ digit n ∷ []

-- hh:mm:ss.nnnnnnnnn of nanoseconds since midnight
unfoldable pub time_word : ℕ → List ℕ
time_word nanos =
    last_digits 2 (nanos / 3600000000000) ++ codes ":"
    ++ last_digits 2 (nanos / 60000000000 % 60) ++ codes ":"
    ++ last_digits 2 (nanos / 1000000000 % 60) ++ codes "."
    ++ last_digits 9 (nanos % 1000000000)

-- yyyy-mm-dd
unfoldable pub date_word : Civil → List ℕ
date_word d = last_digits 4 d.year ++ codes "-" ++ last_digits 2 d.month ++ codes "-" ++ last_digits 2 d.day

-- dollars and four digits, of ten-thousandths of a dollar
unfoldable pub price_word : ℕ → List ℕ
price_word units = decimal (units / 10000) ++ codes "." ++ last_digits 4 (units % 10000)

-- a price that may be absent
abbrev pub optional_price_word : Option ℕ → List ℕ
optional_price_word None = codes "-"
optional_price_word (Some units) = price_word units

-- points and two digits, of hundredths of an index point
unfoldable pub index_word : ℕ → List ℕ
index_word hundredths = decimal (hundredths / 100) ++ codes "." ++ last_digits 2 (hundredths % 100)

-- a hexadecimal digit in lower case
abbrev pub hex_digit : ℕ → ℕ
hex_digit n = if nat_lt (n % 16) 10 then n % 16 + 48 else n % 16 + 87

-- four hexadecimal digits
unfoldable pub flags_word : ℕ → List ℕ
flags_word flags = hex_digit (flags / 4096) ∷ hex_digit (flags / 256) ∷ hex_digit (flags / 16) ∷ hex_digit flags ∷ []

-- a name without the zero bytes behind it
unfoldable pub name_word : List ℕ → List ℕ
name_word name = take (visible_count name) name

abbrev pub close_word : Close → List ℕ
close_word closes.Regular = codes "regular"
close_word closes.Early = codes "early"

abbrev pub profile_word : Profile → List ℕ
profile_word profiles.Since18 = codes "since18"
profile_word profiles.Before18 = codes "before18"

abbrev pub tier_word : Tier → List ℕ
tier_word tiers.One = codes "tier1"
tier_word tiers.Two = codes "tier2"

abbrev pub notice_word : NoticeKind → List ℕ
notice_word kinds.OpenQuote = codes "openquote"
notice_word kinds.PauseNow = codes "pausenow"
notice_word kinds.Halt = codes "halt"
notice_word kinds.Resume = codes "resume"

abbrev pub unmatched_word : Unmatched → List ℕ
unmatched_word sides.Nothing = codes "none"
unmatched_word sides.Buy = codes "buy"
unmatched_word sides.Sell = codes "sell"

abbrev pub phase_word : Phase → List ℕ
phase_word phases.Shut = codes "shut"
phase_word phases.Trading = codes "trading"
phase_word phases.LimitLow = codes "limitlow"
phase_word phases.LimitHigh = codes "limithigh"
phase_word phases.Paused = codes "paused"
phase_word phases.Halted = codes "halted"
phase_word phases.Stopped = codes "stopped"
phase_word phases.Closing = codes "closing"
phase_word phases.Closed = codes "closed"

abbrev pub cause_word : Cause → List ℕ
cause_word causes.First = codes "first"
cause_word causes.Moved = codes "moved"
cause_word causes.Forced = codes "forced"
cause_word causes.Times = codes "times"

abbrev pub straddle_word : Bool → List ℕ
straddle_word true = codes "on"
straddle_word false = codes "off"

abbrev pub short_word : ShortKind → List ℕ
short_word shorts.Triggered = codes "triggered"
short_word shorts.Carried = codes "carried"

abbrev pub level_word : Level → List ℕ
level_word levels.One = codes "1"
level_word levels.Two = codes "2"
level_word levels.Three = codes "3"
