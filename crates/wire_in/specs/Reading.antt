-- The record of a body, or the first refusal: of its type, of its length, or of a field. Numbers are unsigned and
-- big-endian. Offsets count from the type byte, fields from the moment.
use Rattle.std.specs.Prelude.{ℕ, ◌+◌, ◌==◌, if◌then◌else◌, List, [], ◌∷◌, length, slice_index, Option, Result, Ok, Err}
use Rattle.std.specs.Int.{w16, w32}
use Rattle.std.specs.Option.{ok_or}
use Rattle.session_core.specs.Dates.{Civil}
use Rattle.session_core.specs.CivilDates.{civil_date}
use Rattle.session_core.specs.declared.date.BadDate.{BadDate}
use Rattle.session_core.specs.declared.date.BadDate.TheVariants.{Year, Month, DayOfMonth}
use Rattle.wire_core.specs.Fields.{number, moment_at, price_at, optional_price_at, index_at}
use Rattle.wire_core.specs.Names.{name_at}
use Rattle.wire_core.specs.ResultSteps.{◌>>=◌}
use Rattle.wire_in.specs.Codes.{close_of_byte, profile_of_byte, tier_of_byte, leverage_of_byte, flags_of_number, kind_of_byte, unmatched_of_byte}
use Rattle.wire_in.specs.declared.record.Record.{Record}
use Rattle.wire_in.specs.declared.record.Record.TheVariants.{Day, Listing, Trade, Cancel, Quote, IndexTick, Clock, Notice, Indication}
use Rattle.wire_in.specs.declared.record.Refusal.{Refusal}
use Rattle.wire_in.specs.declared.record.Refusal.TheVariants.{UnknownType, BadLength, BadField}

-- field k of a body, or its refusal
abbrev pub field : {A : Type 0} → ℕ → Option A → Result A Refusal
field k value = ok_or value (BadField k)

-- a body of n bytes
abbrev pub sized : ℕ → List ℕ → Result Record Refusal → Result Record Refusal
sized n body read = if length body == n then read else Err BadLength

-- the year, the month and the day of the month are fields 2, 3 and 4
abbrev pub date_or_field : Result Civil BadDate → Result Civil Refusal
date_or_field (Ok d) = Ok d
date_or_field (Err Year) = Err (BadField 2)
date_or_field (Err Month) = Err (BadField 3)
date_or_field (Err DayOfMonth) = Err (BadField 4)

unfoldable pub date_at : ℕ → List ℕ → Result Civil Refusal
date_at at body = date_or_field (civil_date (number w16 at body) (slice_index body (at + 2)) (slice_index body (at + 3)))

unfoldable pub day_of : List ℕ → Result Record Refusal
day_of body = sized 19 body (do
  m ← field 1 (moment_at 1 body)
  d ← date_at 9 body
  c ← field 5 (close_of_byte (slice_index body 13))
  p ← field 6 (profile_of_byte (slice_index body 14))
  v ← field 7 (index_at 15 body)
  Ok (Day m (record { date = d; close = c; profile = p }) v))

unfoldable pub listing_of : List ℕ → Result Record Refusal
listing_of body = sized 27 body (do
  m ← field 1 (moment_at 1 body)
  n ← field 2 (name_at 9 body)
  t ← field 3 (tier_of_byte (slice_index body 17))
  l ← field 4 (leverage_of_byte (slice_index body 18))
  c ← field 5 (optional_price_at 19 body)
  Ok (Listing m n t l c))

unfoldable pub trade_of : List ℕ → Result Record Refusal
trade_of body = sized 29 body (do
  m ← field 1 (moment_at 1 body)
  p ← field 4 (price_at 15 body)
  f ← field 6 (flags_of_number (number w16 27 body))
  Ok (Trade m (number w16 9 body) (number w32 11 body) p (number w32 23 body) f))

unfoldable pub cancel_of : List ℕ → Result Record Refusal
cancel_of body = sized 15 body (do
  m ← field 1 (moment_at 1 body)
  Ok (Cancel m (number w16 9 body) (number w32 11 body)))

unfoldable pub quote_of : List ℕ → Result Record Refusal
quote_of body = sized 35 body (do
  m ← field 1 (moment_at 1 body)
  b ← field 3 (optional_price_at 11 body)
  o ← field 4 (optional_price_at 19 body)
  Ok (Quote m (number w16 9 body) b o (number w32 27 body) (number w32 31 body)))

unfoldable pub index_tick_of : List ℕ → Result Record Refusal
index_tick_of body = sized 13 body (do
  m ← field 1 (moment_at 1 body)
  v ← field 2 (index_at 9 body)
  Ok (IndexTick m v))

unfoldable pub clock_of : List ℕ → Result Record Refusal
clock_of body = sized 9 body (do
  m ← field 1 (moment_at 1 body)
  Ok (Clock m))

unfoldable pub notice_of : List ℕ → Result Record Refusal
notice_of body = sized 12 body (do
  m ← field 1 (moment_at 1 body)
  k ← field 3 (kind_of_byte (slice_index body 11))
  Ok (Notice m (number w16 9 body) k))

unfoldable pub indication_of : List ℕ → Result Record Refusal
indication_of body = sized 20 body (do
  m ← field 1 (moment_at 1 body)
  p ← field 3 (price_at 11 body)
  u ← field 4 (unmatched_of_byte (slice_index body 19))
  Ok (Indication m (number w16 9 body) p u))

-- an empty body has no type byte
unfoldable pub record_of : List ℕ → Result Record Refusal
record_of [] = Err BadLength
record_of (t ∷ rest) =
    if t == 1 then day_of (t ∷ rest)
    else if t == 2 then listing_of (t ∷ rest)
    else if t == 3 then trade_of (t ∷ rest)
    else if t == 4 then cancel_of (t ∷ rest)
    else if t == 5 then quote_of (t ∷ rest)
    else if t == 6 then index_tick_of (t ∷ rest)
    else if t == 7 then clock_of (t ∷ rest)
    else if t == 8 then notice_of (t ∷ rest)
    else if t == 9 then indication_of (t ∷ rest)
    else Err UnknownType

-- what was put where a record is wanted, or why nothing was
abbrev pub placed : Record → Result (Unit {0}) Refusal → Result Record Refusal
placed x (Ok _) = Ok x
placed x (Err refusal) = Err refusal
