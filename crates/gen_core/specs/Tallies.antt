-- How many messages there are of each kind.
use Rattle.std.specs.Prelude.{ℕ, Bool, true, false, List, length, count_by}
use Rattle.wire_out.specs.declared.message.Message.{Message}
use Rattle.wire_out.specs.declared.message.Message.TheVariants.{Listed, State, Band, Straddle, Collar, Release, Short, Breaker, MarketResume}
use Rattle.wire_out.specs.declared.message.Stamped.{Stamped}
use Rattle.gen_core.specs.declared.tally.Tally.{Tally}

abbrev pub is_listed : Message → Bool
is_listed (Listed s name) = true
is_listed m = false

abbrev pub is_state : Message → Bool
is_state (State s p) = true
is_state m = false

abbrev pub is_band : Message → Bool
is_band (Band s c r l u) = true
is_band m = false

abbrev pub is_straddle : Message → Bool
is_straddle (Straddle s on) = true
is_straddle m = false

abbrev pub is_collar : Message → Bool
is_collar (Collar s n l u) = true
is_collar m = false

abbrev pub is_release : Message → Bool
is_release (Release s p) = true
is_release m = false

abbrev pub is_short : Message → Bool
is_short (Short s k) = true
is_short m = false

abbrev pub is_breaker : Message → Bool
is_breaker (Breaker v i) = true
is_breaker m = false

abbrev pub is_resume : Message → Bool
is_resume MarketResume = true
is_resume m = false

-- how many of these messages are of a kind
abbrev pub count_of : (Message → Bool) → List Stamped → ℕ
count_of is_kind messages = count_by (λ x. is_kind x.message) messages

-- how many messages these are, and how many of each kind
abbrev pub tally_of : List Stamped → Tally
tally_of messages = record {
  messages = length messages;
  listed = count_of is_listed messages;
  state = count_of is_state messages;
  band = count_of is_band messages;
  straddle = count_of is_straddle messages;
  collar = count_of is_collar messages;
  release = count_of is_release messages;
  short = count_of is_short messages;
  breaker = count_of is_breaker messages;
  resume = count_of is_resume messages;
}
