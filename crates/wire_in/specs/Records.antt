-- What a record says.
use Rattle.std.specs.Prelude.{ℕ, Bool, true, false, List, Option, Some, None}
use Rattle.wire_in.specs.declared.record.Record.{Record}
use Rattle.wire_in.specs.declared.record.RecordKind.{RecordKind}
use Rattle.wire_in.specs.declared.record.RecordKind.TheVariants as kinds
use Rattle.wire_in.specs.declared.record.Record.TheVariants.{Day, Listing, Trade, Cancel, Quote, IndexTick, Clock, Notice, Indication}

-- the moment of a record, in nanoseconds of the day
abbrev pub moment_of : Record → ℕ
moment_of (Day t d v) = t
moment_of (Listing t n k l c) = t
moment_of (Trade t s n p z f) = t
moment_of (Cancel t s n) = t
moment_of (Quote t s b o x y) = t
moment_of (IndexTick t v) = t
moment_of (Clock t) = t
moment_of (Notice t s k) = t
moment_of (Indication t s p u) = t

abbrev pub is_day : Record → Bool
is_day (Day t d v) = true
is_day _ = false

-- a clock or an index tick, which the rules evaluate for each symbol
abbrev pub is_tick : Record → Bool
is_tick (IndexTick t v) = true
is_tick (Clock t) = true
is_tick _ = false

-- the name that a listing lists
abbrev pub name_of : Record → Option (List ℕ)
name_of (Listing t n k l c) = Some n
name_of _ = None

-- the symbol that a record names by its id
abbrev pub symbol_of : Record → Option ℕ
symbol_of (Trade t s n p z f) = Some s
symbol_of (Cancel t s n) = Some s
symbol_of (Quote t s b o x y) = Some s
symbol_of (Notice t s k) = Some s
symbol_of (Indication t s p u) = Some s
symbol_of _ = None

abbrev pub kind_of : Record → RecordKind
kind_of (Day t d v) = kinds.Day
kind_of (Listing t n k l c) = kinds.Listing
kind_of (IndexTick t v) = kinds.Tick
kind_of (Clock t) = kinds.Tick
kind_of _ = kinds.OfSymbol
