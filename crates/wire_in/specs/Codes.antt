-- The byte of each value of a field, and the value of each byte.
use Rattle.std.specs.Prelude.{ℕ, ◌&&◌, ◌==◌, nat_le, if◌then◌else◌, Option, Some, None}
use Rattle.price_core.specs.declared.quote.Tier.{Tier}
use Rattle.price_core.specs.declared.quote.Tier.TheVariants as tiers
use Rattle.price_core.specs.declared.quote.Unmatched.{Unmatched}
use Rattle.price_core.specs.declared.quote.Unmatched.TheVariants as sides
use Rattle.session_core.specs.declared.day.Close.{Close}
use Rattle.session_core.specs.declared.day.Close.TheVariants as closes
use Rattle.session_core.specs.declared.day.Profile.{Profile}
use Rattle.session_core.specs.declared.day.Profile.TheVariants as profiles
use Rattle.wire_core.specs.Fields.{checked}
use Rattle.wire_in.specs.declared.record.NoticeKind.{NoticeKind}
use Rattle.wire_in.specs.declared.record.NoticeKind.TheVariants as kinds

abbrev pub close_byte : Close → ℕ
close_byte closes.Regular = 1
close_byte closes.Early = 2

abbrev pub close_of_byte : ℕ → Option Close
close_of_byte byte =
    if byte == 1 then Some closes.Regular
    else if byte == 2 then Some closes.Early
    else None

abbrev pub profile_byte : Profile → ℕ
profile_byte profiles.Before18 = 1
profile_byte profiles.Since18 = 2

abbrev pub profile_of_byte : ℕ → Option Profile
profile_of_byte byte =
    if byte == 1 then Some profiles.Before18
    else if byte == 2 then Some profiles.Since18
    else None

abbrev pub tier_byte : Tier → ℕ
tier_byte tiers.One = 1
tier_byte tiers.Two = 2

abbrev pub tier_of_byte : ℕ → Option Tier
tier_of_byte byte =
    if byte == 1 then Some tiers.One
    else if byte == 2 then Some tiers.Two
    else None

-- tenths
abbrev pub leverage_of_byte : ℕ → Option ℕ
leverage_of_byte byte = checked (nat_le 10 byte && nat_le byte 50) byte

-- only the ten assigned flags
abbrev pub flags_of_number : ℕ → Option ℕ
flags_of_number flags = checked (nat_le flags 1023) flags

abbrev pub kind_byte : NoticeKind → ℕ
kind_byte kinds.OpenQuote = 1
kind_byte kinds.PauseNow = 2
kind_byte kinds.Halt = 3
kind_byte kinds.Resume = 4

abbrev pub kind_of_byte : ℕ → Option NoticeKind
kind_of_byte byte =
    if byte == 1 then Some kinds.OpenQuote
    else if byte == 2 then Some kinds.PauseNow
    else if byte == 3 then Some kinds.Halt
    else if byte == 4 then Some kinds.Resume
    else None

abbrev pub unmatched_byte : Unmatched → ℕ
unmatched_byte sides.Nothing = 0
unmatched_byte sides.Buy = 1
unmatched_byte sides.Sell = 2

abbrev pub unmatched_of_byte : ℕ → Option Unmatched
unmatched_of_byte byte =
    if byte == 0 then Some sides.Nothing
    else if byte == 1 then Some sides.Buy
    else if byte == 2 then Some sides.Sell
    else None
