-- How the words of a line are taken for values. A line is read by this, and then compared with the line of what was
-- read: so here each value must be found in its own line, and it doesn't matter what is found in others.
use Rattle.std.specs.Prelude.{ℕ, Bool, true, false, zero, suc, ◌+◌, ◌-◌, ◌*◌, ◌/◌, ◌%◌, ◌^◌, ◌==◌, ◌&&◌, nat_le, nat_lt, min, not, if◌then◌else◌, List, ◌++◌, length, take, drop, replicate, slice_index, Option, Some, None, codes, bytes_eq}
use Rattle.std.specs.Char.{is_ascii_digit}
use Rattle.std.specs.List.{fold, take_while}
use Rattle.std.specs.Result.{result_ok}
use Rattle.price_core.specs.declared.quote.Tier.{Tier}
use Rattle.price_core.specs.declared.quote.Tier.TheVariants as tiers
use Rattle.price_core.specs.declared.quote.Unmatched.{Unmatched}
use Rattle.price_core.specs.declared.quote.Unmatched.TheVariants as sides
use Rattle.session_core.specs.Dates.{Civil}
use Rattle.session_core.specs.CivilDates.{civil_date}
use Rattle.session_core.specs.declared.day.Close.{Close}
use Rattle.session_core.specs.declared.day.Close.TheVariants as closes
use Rattle.session_core.specs.declared.day.Profile.{Profile}
use Rattle.session_core.specs.declared.day.Profile.TheVariants as profiles
use Rattle.price_core.specs.declared.quote.Cause.{Cause}
use Rattle.price_core.specs.declared.quote.Cause.TheVariants as causes
use Rattle.session_core.specs.declared.state.Level.{Level}
use Rattle.session_core.specs.declared.state.Level.TheVariants as levels
use Rattle.session_core.specs.declared.state.Phase.{Phase}
use Rattle.session_core.specs.declared.state.Phase.TheVariants as phases
use Rattle.wire_out.specs.declared.message.ShortKind.{ShortKind}
use Rattle.wire_out.specs.declared.message.ShortKind.TheVariants as shorts
use Rattle.wire_core.specs.Fields.{checked, is_moment, is_price, is_index}
use Rattle.wire_in.specs.Codes.{leverage_of_byte}
use Rattle.wire_core.specs.OptionSteps.{◌>>=◌}
use Rattle.wire_core.specs.Names.{is_name}
use Rattle.wire_out.specs.Codes.{is_code, is_field}
use Rattle.text_core.specs.Lines.{line_of_record, line_of_frame}
use Rattle.wire_in.specs.declared.record.NoticeKind.{NoticeKind}
use Rattle.wire_in.specs.declared.record.NoticeKind.TheVariants as kinds
use Rattle.wire_in.specs.declared.record.Record.{Record}
use Rattle.wire_out.specs.declared.message.Message.{Message}
use Rattle.wire_out.specs.declared.message.Message.TheVariants.{Listed, State, Band, Straddle, Collar, Release, Short, Breaker, MarketResume}
use Rattle.wire_out.specs.declared.message.Frame.{Frame}
use Rattle.wire_out.specs.declared.message.Frame.TheVariants.{Hello, Numbered, Ack, Refused}
use Rattle.wire_in.specs.declared.record.Record.TheVariants.{Day, Listing, Trade, Cancel, Quote, IndexTick, Clock, Notice, Indication}

-- how long the first word of a line is
abbrev pub word_len : List ℕ → ℕ
word_len line = length (take_while (λ b. not (b == 32)) line)

-- a word of a line, from 0 on
unfoldable pub word_at : ℕ → List ℕ → List ℕ
word_at zero line = take (word_len line) line
word_at (suc n) line = word_at n (drop (word_len line + 1) line)

-- what stands behind the first word of a line and the blank that ends it
unfoldable pub behind : List ℕ → List ℕ
behind line = drop (word_len line + 1) line

-- a number with one character more, which counts where it is a digit
abbrev pub next_number : ℕ → ℕ → ℕ
next_number n byte = if is_ascii_digit byte then n * 10 + (byte - 48) else n

-- the number that the digits of a word give, all else left out, up to 64 bits
unfoldable pub number_in : List ℕ → ℕ
number_in word = min (fold next_number 0 word) (2 ^ 64 - 1)

-- the value of a hexadecimal digit in lower case
abbrev pub hex_value : ℕ → ℕ
hex_value byte = if nat_lt byte 58 then (byte - 48) % 16 else (byte - 87) % 16

-- flags of four hexadecimal digits
unfoldable pub flags_in : List ℕ → Option ℕ
flags_in word =
    if length word == 4
    then Some (hex_value (slice_index word 0) * 4096 + hex_value (slice_index word 1) * 256 + hex_value (slice_index word 2) * 16 + hex_value (slice_index word 3))
    else None

unfoldable pub number8_in : List ℕ → Option ℕ
number8_in word = checked (nat_lt (number_in word) (2 ^ 8)) (number_in word)

unfoldable pub number16_of : ℕ → Option ℕ
number16_of n = checked (nat_lt n (2 ^ 16)) n

unfoldable pub number16_in : List ℕ → Option ℕ
number16_in word = number16_of (number_in word)

unfoldable pub number32_of : ℕ → Option ℕ
number32_of n = checked (nat_lt n (2 ^ 32)) n

unfoldable pub number32_in : List ℕ → Option ℕ
number32_in word = number32_of (number_in word)

-- nanoseconds since midnight of the digits hhmmssnnnnnnnnn
abbrev pub nanos_of : ℕ → ℕ
nanos_of n =
    (n / 10000000000000 % 100 * 3600 + n / 100000000000 % 100 * 60 + n / 1000000000 % 100) * 1000000000
    + n % 1000000000

unfoldable pub moment_of : ℕ → Option ℕ
moment_of n = checked (is_moment (nanos_of n)) (nanos_of n)

unfoldable pub moment_in : List ℕ → Option ℕ
moment_in word = moment_of (number_in word)

unfoldable pub price_of : ℕ → Option ℕ
price_of units = checked (is_price units) units

unfoldable pub price_in : List ℕ → Option ℕ
price_in word = price_of (number_in word)

-- no units stand for no price
unfoldable pub optional_price_of : ℕ → Option (Option ℕ)
optional_price_of units = if units == 0 then Some None else checked (is_price units) (Some units)

unfoldable pub optional_price_in : List ℕ → Option (Option ℕ)
optional_price_in word = optional_price_of (number_in word)

unfoldable pub index_in : List ℕ → Option ℕ
index_in word = do
  hundredths ← number32_in word
  checked (is_index hundredths) hundredths

-- the date of the digits yyyymmdd
unfoldable pub date_in : List ℕ → Option Civil
date_in word = result_ok (civil_date (number_in word / 10000 % 10000) (number_in word / 100 % 100) (number_in word % 100))

-- tenths
unfoldable pub leverage_in : List ℕ → Option ℕ
leverage_in word = do
  tenths ← number8_in word
  leverage_of_byte tenths

-- a name of eight bytes, with zero bytes behind the word
unfoldable pub name_in : List ℕ → Option (List ℕ)
name_in word = checked (nat_le (length word) 8) (word ++ drop (length word) (replicate 8 0))

abbrev pub close_in : List ℕ → Option Close
close_in word =
    if bytes_eq word (codes "regular") then Some closes.Regular
    else if bytes_eq word (codes "early") then Some closes.Early
    else None

abbrev pub profile_in : List ℕ → Option Profile
profile_in word =
    if bytes_eq word (codes "since18") then Some profiles.Since18
    else if bytes_eq word (codes "before18") then Some profiles.Before18
    else None

abbrev pub tier_in : List ℕ → Option Tier
tier_in word =
    if bytes_eq word (codes "tier1") then Some tiers.One
    else if bytes_eq word (codes "tier2") then Some tiers.Two
    else None

abbrev pub notice_in : List ℕ → Option NoticeKind
notice_in word =
    if bytes_eq word (codes "openquote") then Some kinds.OpenQuote
    else if bytes_eq word (codes "pausenow") then Some kinds.PauseNow
    else if bytes_eq word (codes "halt") then Some kinds.Halt
    else if bytes_eq word (codes "resume") then Some kinds.Resume
    else None

abbrev pub unmatched_in : List ℕ → Option Unmatched
unmatched_in word =
    if bytes_eq word (codes "none") then Some sides.Nothing
    else if bytes_eq word (codes "buy") then Some sides.Buy
    else if bytes_eq word (codes "sell") then Some sides.Sell
    else None

abbrev pub phase_in : List ℕ → Option Phase
phase_in word =
    if bytes_eq word (codes "shut") then Some phases.Shut
    else if bytes_eq word (codes "trading") then Some phases.Trading
    else if bytes_eq word (codes "limitlow") then Some phases.LimitLow
    else if bytes_eq word (codes "limithigh") then Some phases.LimitHigh
    else if bytes_eq word (codes "paused") then Some phases.Paused
    else if bytes_eq word (codes "halted") then Some phases.Halted
    else if bytes_eq word (codes "stopped") then Some phases.Stopped
    else if bytes_eq word (codes "closing") then Some phases.Closing
    else if bytes_eq word (codes "closed") then Some phases.Closed
    else None

abbrev pub cause_in : List ℕ → Option Cause
cause_in word =
    if bytes_eq word (codes "first") then Some causes.First
    else if bytes_eq word (codes "moved") then Some causes.Moved
    else if bytes_eq word (codes "forced") then Some causes.Forced
    else if bytes_eq word (codes "times") then Some causes.Times
    else None

abbrev pub straddle_in : List ℕ → Option Bool
straddle_in word =
    if bytes_eq word (codes "on") then Some true
    else if bytes_eq word (codes "off") then Some false
    else None

abbrev pub short_in : List ℕ → Option ShortKind
short_in word =
    if bytes_eq word (codes "triggered") then Some shorts.Triggered
    else if bytes_eq word (codes "carried") then Some shorts.Carried
    else None

abbrev pub level_in : List ℕ → Option Level
level_in word =
    if bytes_eq word (codes "1") then Some levels.One
    else if bytes_eq word (codes "2") then Some levels.Two
    else if bytes_eq word (codes "3") then Some levels.Three
    else None

-- each kind of record is read from what stands behind the word that names it
unfoldable pub day_of : List ℕ → Option Record
day_of rest = do
  m ← moment_in (word_at 0 rest)
  d ← date_in (word_at 1 rest)
  c ← close_in (word_at 2 rest)
  p ← profile_in (word_at 3 rest)
  v ← index_in (word_at 4 rest)
  Some (Day m (record { date = d; close = c; profile = p }) v)

unfoldable pub listing_of : List ℕ → Option Record
listing_of rest = do
  m ← moment_in (word_at 0 rest)
  n ← name_in (word_at 1 rest)
  t ← tier_in (word_at 2 rest)
  l ← leverage_in (word_at 3 rest)
  c ← optional_price_in (word_at 4 rest)
  Some (Listing m n t l c)

unfoldable pub trade_of : List ℕ → Option Record
trade_of rest = do
  m ← moment_in (word_at 0 rest)
  s ← number16_in (word_at 1 rest)
  n ← number32_in (word_at 2 rest)
  p ← price_in (word_at 3 rest)
  z ← number32_in (word_at 4 rest)
  f ← flags_in (word_at 5 rest)
  Some (Trade m s n p z f)

unfoldable pub cancel_of : List ℕ → Option Record
cancel_of rest = do
  m ← moment_in (word_at 0 rest)
  s ← number16_in (word_at 1 rest)
  n ← number32_in (word_at 2 rest)
  Some (Cancel m s n)

unfoldable pub quote_of : List ℕ → Option Record
quote_of rest = do
  m ← moment_in (word_at 0 rest)
  s ← number16_in (word_at 1 rest)
  b ← optional_price_in (word_at 2 rest)
  o ← optional_price_in (word_at 3 rest)
  y ← number32_in (word_at 4 rest)
  z ← number32_in (word_at 5 rest)
  Some (Quote m s b o y z)

unfoldable pub index_tick_of : List ℕ → Option Record
index_tick_of rest = do
  m ← moment_in (word_at 0 rest)
  v ← index_in (word_at 1 rest)
  Some (IndexTick m v)

unfoldable pub clock_of : List ℕ → Option Record
clock_of rest = do
  m ← moment_in (word_at 0 rest)
  Some (Clock m)

unfoldable pub notice_of : List ℕ → Option Record
notice_of rest = do
  m ← moment_in (word_at 0 rest)
  s ← number16_in (word_at 1 rest)
  k ← notice_in (word_at 2 rest)
  Some (Notice m s k)

unfoldable pub indication_of : List ℕ → Option Record
indication_of rest = do
  m ← moment_in (word_at 0 rest)
  s ← number16_in (word_at 1 rest)
  p ← price_in (word_at 2 rest)
  u ← unmatched_in (word_at 3 rest)
  Some (Indication m s p u)

-- the record of a line, by its first word
unfoldable pub record_of : List ℕ → Option Record
record_of line =
    if bytes_eq (word_at 0 line) (codes "day") then day_of (behind line)
    else if bytes_eq (word_at 0 line) (codes "listing") then listing_of (behind line)
    else if bytes_eq (word_at 0 line) (codes "trade") then trade_of (behind line)
    else if bytes_eq (word_at 0 line) (codes "cancel") then cancel_of (behind line)
    else if bytes_eq (word_at 0 line) (codes "quote") then quote_of (behind line)
    else if bytes_eq (word_at 0 line) (codes "index") then index_tick_of (behind line)
    else if bytes_eq (word_at 0 line) (codes "clock") then clock_of (behind line)
    else if bytes_eq (word_at 0 line) (codes "notice") then notice_of (behind line)
    else if bytes_eq (word_at 0 line) (codes "indication") then indication_of (behind line)
    else None

-- a number and a moment stand before the words of a message
unfoldable pub listed_of : List ℕ → Option Message
listed_of line = do
  s ← number16_in (word_at 3 line)
  n ← name_in (word_at 4 line)
  Some (Listed s n)

unfoldable pub state_of : List ℕ → Option Message
state_of line = do
  s ← number16_in (word_at 3 line)
  p ← phase_in (word_at 4 line)
  Some (State s p)

unfoldable pub band_of : List ℕ → Option Message
band_of line = do
  s ← number16_in (word_at 3 line)
  c ← cause_in (word_at 4 line)
  r ← price_in (word_at 5 line)
  l ← price_in (word_at 6 line)
  u ← price_in (word_at 7 line)
  Some (Band s c r l u)

unfoldable pub straddle_of : List ℕ → Option Message
straddle_of line = do
  s ← number16_in (word_at 3 line)
  on ← straddle_in (word_at 4 line)
  Some (Straddle s on)

unfoldable pub collar_of : List ℕ → Option Message
collar_of line = do
  s ← number16_in (word_at 3 line)
  n ← number16_in (word_at 4 line)
  l ← price_in (word_at 5 line)
  u ← price_in (word_at 6 line)
  Some (Collar s n l u)

unfoldable pub release_of : List ℕ → Option Message
release_of line = do
  s ← number16_in (word_at 3 line)
  p ← price_in (word_at 4 line)
  Some (Release s p)

unfoldable pub short_of : List ℕ → Option Message
short_of line = do
  s ← number16_in (word_at 3 line)
  k ← short_in (word_at 4 line)
  Some (Short s k)

unfoldable pub breaker_of : List ℕ → Option Message
breaker_of line = do
  v ← level_in (word_at 3 line)
  i ← index_in (word_at 4 line)
  Some (Breaker v i)

-- the message of a line, by its third word
unfoldable pub message_of : List ℕ → Option Message
message_of line =
    if bytes_eq (word_at 2 line) (codes "listed") then listed_of line
    else if bytes_eq (word_at 2 line) (codes "state") then state_of line
    else if bytes_eq (word_at 2 line) (codes "band") then band_of line
    else if bytes_eq (word_at 2 line) (codes "straddle") then straddle_of line
    else if bytes_eq (word_at 2 line) (codes "collar") then collar_of line
    else if bytes_eq (word_at 2 line) (codes "release") then release_of line
    else if bytes_eq (word_at 2 line) (codes "short") then short_of line
    else if bytes_eq (word_at 2 line) (codes "breaker") then breaker_of line
    else if bytes_eq (word_at 2 line) (codes "marketresume") then Some MarketResume
    else None

unfoldable pub numbered_of : List ℕ → Option Frame
numbered_of line = do
  t ← moment_in (word_at 1 line)
  m ← message_of line
  Some (Numbered (number_in (word_at 0 line)) (record { moment = t; message = m }))

unfoldable pub refused_of : List ℕ → Option Frame
refused_of line = do
  c ← number8_in (word_at 2 line)
  f ← number8_in (word_at 3 line)
  Some (Refused (number_in (word_at 1 line)) c f)

-- the frame of a line, by its first word
unfoldable pub frame_of : List ℕ → Option Frame
frame_of line =
    if bytes_eq (word_at 0 line) (codes "hello") then Some (Hello (number_in (word_at 1 line)) (number_in (word_at 2 line)))
    else if bytes_eq (word_at 0 line) (codes "ack") then Some (Ack (number_in (word_at 1 line)))
    else if bytes_eq (word_at 0 line) (codes "refused") then refused_of line
    else numbered_of line

-- what of a record's fields isn't kept by their types: a name, and the ten assigned flags
abbrev pub is_in_range : Record → Bool
is_in_range (Listing m n t l c) = is_name n
is_in_range (Trade m s n p z f) = nat_le f 1023
is_in_range _ = true

abbrev pub is_line_of : List ℕ → Record → Bool
is_line_of line x = is_in_range x && bytes_eq line (line_of_record x)

-- the record that a line prints, if it prints one
unfoldable pub record_in : List ℕ → Option Record
record_in line = do
  x ← record_of line
  checked (is_line_of line x) x

abbrev pub is_sayable : Message → Bool
is_sayable (Listed s name) = is_name name
is_sayable _ = true

-- what the types of a frame don't keep
abbrev pub is_frame_in_range : Frame → Bool
is_frame_in_range (Hello i m) = true
is_frame_in_range (Ack i) = nat_lt 0 i
is_frame_in_range (Refused p c f) = nat_lt 0 p && (is_code c && is_field c f)
is_frame_in_range (Numbered n x) = nat_lt 0 n && is_sayable x.message

abbrev pub is_line_of_frame : List ℕ → Frame → Bool
is_line_of_frame line f = is_frame_in_range f && bytes_eq line (line_of_frame f)

-- the published frame that a line prints, if it prints one
unfoldable pub frame_in : List ℕ → Option Frame
frame_in line = do
  f ← frame_of line
  checked (is_line_of_frame line f) f
