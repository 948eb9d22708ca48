-- The one body of each frame. Numbers are unsigned and big-endian.
use Rattle.std.specs.Prelude.{◌≡◌, ℕ, ◌<◌, ◌^◌, IsTrue, List, [], ◌∷◌, ◌++◌, length}
use Rattle.std.specs.Int.{w16, w32, w64, to_be_bytes}
use Rattle.price_core.specs.Ranges.{IsPrice, IsIndex}
use Rattle.session_core.specs.Moments.{IsMoment}
use Rattle.wire_core.specs.Frames.{framed}
use Rattle.wire_core.specs.Names.{is_name}
use Rattle.wire_out.specs.Codes.{phase_byte, cause_byte, straddle_byte, kind_byte, level_byte, is_code, is_field}
use Rattle.wire_out.specs.declared.message.Message.{Message}
use Rattle.wire_out.specs.declared.message.Message.TheVariants.{Listed, State, Band, Straddle, Collar, Release, Short, Breaker, MarketResume}
use Rattle.wire_out.specs.declared.message.Frame.{Frame}
use Rattle.wire_out.specs.declared.message.Frame.TheVariants.{Hello, Numbered, Ack, Refused}

-- The type byte of a message, and the fields behind its number and its moment.
abbrev pub type_and_fields : Message → ℕ × List ℕ
type_and_fields (Listed s name) = (0x11, to_be_bytes w16 s ++ name)
type_and_fields (State s p) = (0x12, to_be_bytes w16 s ++ phase_byte p ∷ [])
type_and_fields (Band s c r l u) = (0x13, to_be_bytes w16 s ++ cause_byte c ∷ to_be_bytes w64 r ++ to_be_bytes w64 l ++ to_be_bytes w64 u)
type_and_fields (Straddle s on) = (0x14, to_be_bytes w16 s ++ straddle_byte on ∷ [])
type_and_fields (Collar s n l u) = (0x15, to_be_bytes w16 s ++ to_be_bytes w16 n ++ to_be_bytes w64 l ++ to_be_bytes w64 u)
type_and_fields (Release s p) = (0x16, to_be_bytes w16 s ++ to_be_bytes w64 p)
type_and_fields (Short s k) = (0x17, to_be_bytes w16 s ++ kind_byte k ∷ [])
type_and_fields (Breaker v i) = (0x18, level_byte v ∷ to_be_bytes w32 i)
type_and_fields MarketResume = (0x19, [])

-- a numbered message has its number and its moment behind its type byte
abbrev pub numbered_body : ℕ → ℕ → Message → List ℕ
numbered_body n t m = (type_and_fields m).0 ∷ to_be_bytes w64 n ++ to_be_bytes w64 t ++ (type_and_fields m).1

-- the body of a frame
abbrev pub body_of : Frame → List ℕ
body_of (Hello i m) = 0x81 ∷ to_be_bytes w64 i ++ to_be_bytes w64 m
body_of (Ack i) = 0x82 ∷ to_be_bytes w64 i
body_of (Refused p c f) = 0x83 ∷ to_be_bytes w64 p ++ c ∷ f ∷ []
body_of (Numbered n x) = numbered_body n x.moment x.message

-- the bytes of a frame, with its length byte
unfoldable pub spelling : Frame → List ℕ
spelling f = framed (body_of f)

-- a name is all that the types of a message don't keep
abbrev pub IsSayable : Message → Type 0
IsSayable (Listed s name) = (length name ≡ 8) × IsTrue (is_name name)
IsSayable _ = Unit {0}

-- what the types of a frame don't keep
abbrev pub InRange : Frame → Type 0
InRange (Hello i m) = Unit {0}
InRange (Ack i) = 0 < i
InRange (Refused p c f) = (0 < p) × IsTrue (is_code c) × IsTrue (is_field c f)
InRange (Numbered n x) = (0 < n) × IsSayable x.message

-- the numbers of a message are those of its types
abbrev pub IsTyped : Message → Type 0
IsTyped (Listed s name) = s < 2 ^ 16
IsTyped (State s p) = s < 2 ^ 16
IsTyped (Band s c r l u) = (s < 2 ^ 16) × IsPrice r × IsPrice l × IsPrice u
IsTyped (Straddle s on) = s < 2 ^ 16
IsTyped (Collar s n l u) = (s < 2 ^ 16) × (n < 2 ^ 16) × IsPrice l × IsPrice u
IsTyped (Release s p) = (s < 2 ^ 16) × IsPrice p
IsTyped (Short s k) = s < 2 ^ 16
IsTyped (Breaker v i) = IsIndex i
IsTyped MarketResume = Unit {0}

-- the numbers of a frame are those of its types
abbrev pub HasTypes : Frame → Type 0
HasTypes (Hello i m) = (i < 2 ^ 64) × (m < 2 ^ 64)
HasTypes (Ack i) = i < 2 ^ 64
HasTypes (Refused p c f) = (p < 2 ^ 64) × (c < 2 ^ 8) × (f < 2 ^ 8)
HasTypes (Numbered n x) = (n < 2 ^ 64) × IsMoment x.moment × IsTyped x.message

-- a body spells a frame
pub record Spells (body : List ℕ) (f : Frame) : Type 0 where
  pub types : HasTypes f
  pub ranges : InRange f
  pub bytes : body ≡ body_of f
