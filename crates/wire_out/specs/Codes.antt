-- The byte of each value of a field, and the value of each byte.
use Rattle.std.specs.Prelude.{ℕ, Bool, true, false, ◌&&◌, ◌==◌, nat_le, if◌then◌else◌, Option, Some, None}
use Rattle.price_core.specs.declared.quote.Cause.{Cause}
use Rattle.price_core.specs.declared.quote.Cause.TheVariants as causes
use Rattle.session_core.specs.declared.state.Level.{Level}
use Rattle.session_core.specs.declared.state.Level.TheVariants as levels
use Rattle.session_core.specs.declared.state.Phase.{Phase}
use Rattle.session_core.specs.declared.state.Phase.TheVariants as phases
use Rattle.wire_out.specs.declared.message.ShortKind.{ShortKind}
use Rattle.wire_out.specs.declared.message.ShortKind.TheVariants as kinds

abbrev pub phase_byte : Phase → ℕ
phase_byte phases.Shut = 0
phase_byte phases.Trading = 1
phase_byte phases.LimitLow = 2
phase_byte phases.LimitHigh = 3
phase_byte phases.Paused = 4
phase_byte phases.Halted = 5
phase_byte phases.Stopped = 6
phase_byte phases.Closing = 7
phase_byte phases.Closed = 8

abbrev pub phase_of_byte : ℕ → Option Phase
phase_of_byte byte =
    if byte == 0 then Some phases.Shut
    else if byte == 1 then Some phases.Trading
    else if byte == 2 then Some phases.LimitLow
    else if byte == 3 then Some phases.LimitHigh
    else if byte == 4 then Some phases.Paused
    else if byte == 5 then Some phases.Halted
    else if byte == 6 then Some phases.Stopped
    else if byte == 7 then Some phases.Closing
    else if byte == 8 then Some phases.Closed
    else None

abbrev pub cause_byte : Cause → ℕ
cause_byte causes.First = 1
cause_byte causes.Moved = 2
cause_byte causes.Forced = 3
cause_byte causes.Times = 4

abbrev pub cause_of_byte : ℕ → Option Cause
cause_of_byte byte =
    if byte == 1 then Some causes.First
    else if byte == 2 then Some causes.Moved
    else if byte == 3 then Some causes.Forced
    else if byte == 4 then Some causes.Times
    else None

abbrev pub straddle_byte : Bool → ℕ
straddle_byte false = 0
straddle_byte true = 1

abbrev pub straddle_of_byte : ℕ → Option Bool
straddle_of_byte byte =
    if byte == 0 then Some false
    else if byte == 1 then Some true
    else None

abbrev pub kind_byte : ShortKind → ℕ
kind_byte kinds.Triggered = 1
kind_byte kinds.Carried = 2

abbrev pub kind_of_byte : ℕ → Option ShortKind
kind_of_byte byte =
    if byte == 1 then Some kinds.Triggered
    else if byte == 2 then Some kinds.Carried
    else None

abbrev pub level_byte : Level → ℕ
level_byte levels.One = 1
level_byte levels.Two = 2
level_byte levels.Three = 3

abbrev pub level_of_byte : ℕ → Option Level
level_of_byte byte =
    if byte == 1 then Some levels.One
    else if byte == 2 then Some levels.Two
    else if byte == 3 then Some levels.Three
    else None

-- the code of a refusal
abbrev pub is_code : ℕ → Bool
is_code code = nat_le 1 code && nat_le code 9

-- the field that a refusal names: one of seven where its code is 3, and else none
abbrev pub is_field : ℕ → ℕ → Bool
is_field code field = if code == 3 then nat_le 1 field && nat_le field 7 else field == 0
