-- The frame that a body spells, or none. Numbers are unsigned and big-endian. Offsets count from the type byte.
use Rattle.std.specs.Prelude.{ℕ, ◌==◌, nat_lt, if◌then◌else◌, List, [], ◌∷◌, length, slice_index, Option, Some, None}
use Rattle.std.specs.Int.{w16, w64}
use Rattle.wire_core.specs.Fields.{number, checked, moment_at, price_at, index_at}
use Rattle.wire_core.specs.Names.{name_at}
use Rattle.wire_core.specs.OptionSteps.{◌>>=◌}
use Rattle.wire_out.specs.Codes.{phase_of_byte, cause_of_byte, straddle_of_byte, kind_of_byte, level_of_byte, is_code, is_field}
use Rattle.wire_out.specs.declared.message.Message.{Message}
use Rattle.wire_out.specs.declared.message.Message.TheVariants.{Listed, State, Band, Straddle, Collar, Release, Short, Breaker, MarketResume}
use Rattle.wire_out.specs.declared.message.Frame.{Frame}
use Rattle.wire_out.specs.declared.message.Frame.TheVariants.{Hello, Numbered, Ack, Refused}

-- a body of n bytes
abbrev pub sized : {A : Type 0} → ℕ → List ℕ → Option A → Option A
sized n body read = if length body == n then read else None

-- a number from 1 on, of eight bytes
unfoldable pub count_at : ℕ → List ℕ → Option ℕ
count_at at body = checked (nat_lt 0 (number w64 at body)) (number w64 at body)

unfoldable pub listed_of : List ℕ → Option Message
listed_of body = sized 27 body (do
  n ← name_at 19 body
  Some (Listed (number w16 17 body) n))

unfoldable pub state_of : List ℕ → Option Message
state_of body = sized 20 body (do
  p ← phase_of_byte (slice_index body 19)
  Some (State (number w16 17 body) p))

unfoldable pub band_of : List ℕ → Option Message
band_of body = sized 44 body (do
  c ← cause_of_byte (slice_index body 19)
  r ← price_at 20 body
  l ← price_at 28 body
  u ← price_at 36 body
  Some (Band (number w16 17 body) c r l u))

unfoldable pub straddle_of : List ℕ → Option Message
straddle_of body = sized 20 body (do
  on ← straddle_of_byte (slice_index body 19)
  Some (Straddle (number w16 17 body) on))

unfoldable pub collar_of : List ℕ → Option Message
collar_of body = sized 37 body (do
  l ← price_at 21 body
  u ← price_at 29 body
  Some (Collar (number w16 17 body) (number w16 19 body) l u))

unfoldable pub release_of : List ℕ → Option Message
release_of body = sized 27 body (do
  p ← price_at 19 body
  Some (Release (number w16 17 body) p))

unfoldable pub short_of : List ℕ → Option Message
short_of body = sized 20 body (do
  k ← kind_of_byte (slice_index body 19)
  Some (Short (number w16 17 body) k))

unfoldable pub breaker_of : List ℕ → Option Message
breaker_of body = sized 22 body (do
  v ← level_of_byte (slice_index body 17)
  i ← index_at 18 body
  Some (Breaker v i))

unfoldable pub market_resume_of : List ℕ → Option Message
market_resume_of body = sized 17 body (Some MarketResume)

-- the message behind a number and a moment
unfoldable pub message_of : List ℕ → Option Message
message_of [] = None
message_of (t ∷ rest) =
    if t == 0x11 then listed_of (t ∷ rest)
    else if t == 0x12 then state_of (t ∷ rest)
    else if t == 0x13 then band_of (t ∷ rest)
    else if t == 0x14 then straddle_of (t ∷ rest)
    else if t == 0x15 then collar_of (t ∷ rest)
    else if t == 0x16 then release_of (t ∷ rest)
    else if t == 0x17 then short_of (t ∷ rest)
    else if t == 0x18 then breaker_of (t ∷ rest)
    else if t == 0x19 then market_resume_of (t ∷ rest)
    else None

unfoldable pub numbered_of : List ℕ → Option Frame
numbered_of body = do
  m ← message_of body
  n ← count_at 1 body
  t ← moment_at 9 body
  Some (Numbered n (record { moment = t; message = m }))

unfoldable pub hello_of : List ℕ → Option Frame
hello_of body = sized 17 body (Some (Hello (number w64 1 body) (number w64 9 body)))

unfoldable pub ack_of : List ℕ → Option Frame
ack_of body = sized 9 body (do
  i ← count_at 1 body
  Some (Ack i))

unfoldable pub refused_of : List ℕ → Option Frame
refused_of body = sized 11 body (do
  p ← count_at 1 body
  c ← checked (is_code (slice_index body 9)) (slice_index body 9)
  f ← checked (is_field c (slice_index body 10)) (slice_index body 10)
  Some (Refused p c f))

-- the frame of a body
unfoldable pub frame_of : List ℕ → Option Frame
frame_of [] = None
frame_of (t ∷ rest) =
    if t == 0x81 then hello_of (t ∷ rest)
    else if t == 0x82 then ack_of (t ∷ rest)
    else if t == 0x83 then refused_of (t ∷ rest)
    else numbered_of (t ∷ rest)
