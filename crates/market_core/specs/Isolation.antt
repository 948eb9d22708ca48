-- One symbol among the others says what it says alone, over its own records and the market-wide ones.
use Rattle.std.specs.Prelude.{◌≡◌, ℕ, List, [], ◌∷◌, if◌then◌else◌}
use Rattle.wire_in.specs.declared.record.Record.{Record}
use Rattle.wire_out.specs.declared.message.Stamped.{Stamped}
use Rattle.rulebook.specs.Admission.{IsLawful}
use Rattle.rulebook.specs.Isolation.{concerns, for_symbol, isolated_history, view}
use Rattle.rulebook.specs.Book.{messages_of, newest_messages}
use Rattle.rulebook.specs.History.{messages, step_messages}

-- the messages of the market and of s at the newest record, in the history of s alone: none where the record is another symbol's
abbrev pub newest_isolated : ℕ → List Record → List Stamped
newest_isolated s [] = []
newest_isolated s (x ∷ earlier) = if concerns (x ∷ earlier) s x then step_messages (isolated_history s (view (x ∷ earlier) s)) else []

-- each step of the whole history says of s what the step of its own history says
abbrev pub EachStepIsIsolated : Type 0
EachStepIsIsolated = (capacity : ℕ) (accepted : List Record) (s : ℕ) → IsLawful capacity accepted → for_symbol s (newest_messages accepted) ≡ newest_isolated s accepted

-- so the whole history says of s what its own history says
abbrev pub IsIsolated : Type 0
IsIsolated =
    (capacity : ℕ) (accepted : List Record) (s : ℕ) → IsLawful capacity accepted
    → for_symbol s (messages_of accepted) ≡ messages (isolated_history s (view accepted s))

-- and of two lists that agree on the records of s and of the market, s says the same
abbrev pub DependsOnItsView : Type 0
DependsOnItsView =
    (capacity : ℕ) (a b : List Record) (s : ℕ) → IsLawful capacity a → IsLawful capacity b → view a s ≡ view b s
    → for_symbol s (messages_of a) ≡ for_symbol s (messages_of b)
