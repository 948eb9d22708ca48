-- The days that messages tell, one after the other.
use Rattle.std.specs.Prelude.{ℕ, ◌+◌, Bool, ◌||◌, ◌==◌, nat_lt, if◌then◌else◌, List, [], ◌∷◌, ◌++◌, codes, decimal, Option, Some, None, unwrap_or}
use Rattle.std.specs.List.{fold}
use Rattle.wire_out.specs.declared.message.Stamped.{Stamped}
use Rattle.picture_core.specs.Labels.{◌⊕◌}

-- messages that are taken one by one: how many days have begun, the last moment, and the messages of the day that is asked for
pub record Days : Type 0 where
  pub count : ℕ
  pub last : ℕ
  pub messages : List Stamped

-- before the first message
abbrev pub no_days : Days
no_days = record { count = 0; last = 0; messages = [] }

-- the first message begins a day, and so does each whose moment is before that of the message before it
abbrev pub begins_day : Days → Stamped → Bool
begins_day days x = days.count == 0 || nat_lt x.moment days.last

-- how many days have begun with a message
abbrev pub count_with : Days → Stamped → ℕ
count_with days x = if begins_day days x then days.count + 1 else days.count

-- the messages of the day of that number are kept; where no number is given, those of the last day
abbrev pub messages_with : Option ℕ → Days → Stamped → List Stamped
messages_with (Some number) days x = if count_with days x == number then days.messages ++ x ∷ [] else days.messages
messages_with None days x = if begins_day days x then x ∷ [] else days.messages ++ x ∷ []

-- a message is taken
abbrev pub days_with : Option ℕ → Days → Stamped → Days
days_with wanted days x = record { count = count_with days x; last = x.moment; messages = messages_with wanted days x }

-- where there is one
abbrev pub days_after : Option ℕ → Days → Option Stamped → Days
days_after wanted days None = days
days_after wanted days (Some x) = days_with wanted days x

-- all messages are taken
abbrev pub days_of : Option ℕ → List Stamped → Days
days_of wanted messages = fold (days_with wanted) no_days messages

-- which day is asked for: the last one where no number is given
abbrev pub number_of : Option ℕ → Days → ℕ
number_of wanted days = unwrap_or wanted days.count

-- the words for it, where there are several
unfoldable pub day_words : Option ℕ → Days → List ℕ
day_words wanted days =
    if nat_lt 1 days.count then codes ", day " ⊕ decimal (number_of wanted days) ⊕ codes " of " ⊕ decimal days.count else []
