-- The rounds of reopening auctions stand at their times.
use Rattle.std.specs.Prelude.{ℕ, ◌*◌, ◌≤◌, List, [], ◌∷◌}
use Rattle.session_core.specs.Durations.{five_minutes}
use Rattle.wire_out.specs.declared.message.Message.{Message}
use Rattle.wire_out.specs.declared.message.Message.TheVariants.{Collar}
use Rattle.rulebook.specs.declared.event.Event.{Event}
use Rattle.rulebook.specs.declared.event.Event.TheVariants.{Accepted, Published}
use Rattle.rulebook.specs.History.{now}

-- each round of the day before that of a message took five minutes
abbrev pub IsTimely : ℕ → Message → Type 0
IsTimely t (Collar symbol round lower upper) = round * five_minutes ≤ t
IsTimely t m = Unit {0}

-- so it is for each message of a history
abbrev pub AreTimely : List Event → Type 0
AreTimely [] = Unit {0}
AreTimely (Accepted x ∷ h) = AreTimely h
AreTimely (Published m ∷ h) = IsTimely (now h) m × AreTimely h
