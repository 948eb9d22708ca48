-- Which published messages belong to the picture of one symbol.
use Rattle.std.specs.Prelude.{ℕ, ◌-◌, Bool, true, false, ◌==◌, ◌||◌, if◌then◌else◌, List, length, slice_get, Option, Some, None, option_map, unwrap_or}
use Rattle.std.specs.List.{filter, filter_map, fold, list_any}
use Rattle.std.specs.Str.{bytes_eq}
use Rattle.wire_out.specs.declared.message.Message.{Message}
use Rattle.wire_out.specs.declared.message.Message.TheVariants.{Listed, State, Band, Straddle, Collar, Release, Short, Breaker, MarketResume}
use Rattle.wire_out.specs.declared.message.Stamped.{Stamped}
use Rattle.wire_out.specs.declared.message.Frame.{Frame}
use Rattle.wire_out.specs.declared.message.Frame.TheVariants.{Hello, Numbered, Ack, Refused}
use Rattle.picture_core.specs.declared.words.Symbol.{Symbol}
use Rattle.picture_core.specs.declared.words.Symbol.TheVariants.{Id, Name}

-- a message is of that symbol
abbrev pub is_of : ℕ → Message → Bool
is_of symbol (Listed s name) = s == symbol
is_of symbol (State s phase) = s == symbol
is_of symbol (Band s cause reference lower upper) = s == symbol
is_of symbol (Straddle s on) = s == symbol
is_of symbol (Collar s round lower upper) = s == symbol
is_of symbol (Release s price) = s == symbol
is_of symbol (Short s kind) = s == symbol
is_of symbol (Breaker level index) = false
is_of symbol MarketResume = false

-- a message is of the whole market
abbrev pub is_market : Message → Bool
is_market (Breaker level index) = true
is_market MarketResume = true
is_market _ = false

-- a message belongs to the picture of that symbol
abbrev pub belongs : ℕ → Message → Bool
belongs symbol message = is_of symbol message || is_market message

-- the message of a published frame
abbrev pub message_of : Frame → Option Stamped
message_of (Hello inputs messages) = None
message_of (Numbered number x) = Some x
message_of (Ack input) = None
message_of (Refused place code field) = None

-- the messages of frames, in their order
abbrev pub messages_of : List Frame → List Stamped
messages_of frames = filter_map message_of frames

-- the messages of the picture: of a day's those of the symbol and of the market
abbrev pub shown : ℕ → List Stamped → List Stamped
shown symbol day = filter (λ x. belongs symbol x.message) day

-- the last moment that is told of a day
abbrev pub last_moment : List Stamped → ℕ
last_moment day = unwrap_or (option_map (λ x. x.moment) (slice_get day (length day - 1))) 0

-- a day's messages tell something of the symbol
abbrev pub tells_of : ℕ → List Stamped → Bool
tells_of symbol day = list_any (λ x. is_of symbol x.message) day

-- the id under which a message lists that name, else the one that was found before
abbrev pub id_after : List ℕ → Option ℕ → Message → Option ℕ
id_after name id (Listed symbol n) = if bytes_eq n name then Some symbol else id
id_after name id _ = id

-- the id of the symbol that a word names: that of a name is told by its listing
abbrev pub named_id : Symbol → List Stamped → Option ℕ
named_id (Id symbol) day = Some symbol
named_id (Name name) day = fold (λ id x. id_after name id x.message) None day

-- where a day tells something of it
abbrev pub told_id : Option ℕ → List Stamped → Option ℕ
told_id None day = None
told_id (Some symbol) day = if tells_of symbol day then Some symbol else None

-- the id of the symbol on a day
abbrev pub id_on : Symbol → List Stamped → Option ℕ
id_on symbol day = told_id (named_id symbol day) day
