-- What a board of an input told, whatever its answer.
use Rattle.std.specs.Prelude.{◌≡◌, ◌⊎◌, ℕ, Some, List, [], ◌∷◌, ◌++◌, length, map, take, Result, Ok, Err}
use Rattle.host_core.specs.declared.status.Status.{Status}
use Rattle.host_core.specs.declared.status.Status.TheVariants.{Done, Truncated, ReadFault, SendFault, SessionFull, NoMemory}
use Rattle.host_core.specs.Outside.{Outside}
use Rattle.wire_in.specs.declared.record.Record.{Record}
use Rattle.wire_in.specs.declared.record.Refusal.{Refusal}
use Rattle.wire_in.specs.Cutting.{bodies_of}
use Rattle.wire_out.specs.declared.message.Frame.{Frame}
use Rattle.wire_out.specs.declared.message.Frame.TheVariants.{Numbered}
use Rattle.wire_out.specs.declared.message.Message.{Message}
use Rattle.stream_core.specs.Ends.{IsEnd, end_of}
use Rattle.stream_core.specs.Streamed.{Streamed}
use Rattle.rulebook.specs.Admission.{names}
use Rattle.rulebook.specs.Book.{messages_of}
use Rattle.rulebook.specs.Sent.{accepted_of, judged}
use Rattle.market_core.specs.Kinds.{TakesMemory}
use Rattle.screen_core.specs.Rows.{board_lines}

-- more records than any input has, as in a replay
abbrev pub capacity : ℕ
capacity = 18446744073709551615

-- the records of these bodies that a replay accepts, the newest first
abbrev pub accepted : List (List ℕ) → List Record
accepted bodies = accepted_of capacity [] bodies

-- the messages that a replay publishes for these records, in order
abbrev pub said : List Record → List Message
said held = map (λ m. m.message) (messages_of held)

-- the messages among frames
abbrev pub messages_in : List Frame → List Message
messages_in [] = []
messages_in (Numbered number m ∷ later) = m.message ∷ messages_in later
messages_in (frame ∷ later) = messages_in later

-- after these records, the lines of all names that were ever listed
abbrev pub lines_after : List Record → List ℕ
lines_after held = board_lines (said held) (length (names held))

-- all that is sent for an input of which so many bytes are read at most
unfoldable pub screen_text : ℕ → List ℕ → List ℕ
screen_text most input = lines_after (accepted (bodies_of (take most input)))

-- the answers
abbrev pub IsAnswer : Status → Type 0
IsAnswer Done = Unit {0}
IsAnswer Truncated = Unit {0}
IsAnswer ReadFault = Unit {0}
IsAnswer SendFault = Unit {0}
IsAnswer SessionFull = Unit {0}
IsAnswer NoMemory = Unit {0}
IsAnswer _ = ⊥

-- a record is accepted whose deal is kept
abbrev pub IsDeal : Result Record Refusal → Type 0
IsDeal (Ok x) = TakesMemory x
IsDeal (Err refusal) = ⊥

-- one of these bodies brings, behind those before it, a record that is accepted and whose deal is kept
pub record StopsAtDeal (bodies : List (List ℕ)) : Type 0 where
  pub before : List (List ℕ)
  pub body : List ℕ
  pub later : List (List ℕ)
  pub frames : bodies ≡ before ++ body ∷ later
  pub deal : IsDeal (judged capacity (accepted before) body)

-- Up to so many bytes of the input were evaluated, and the board told of them: before the end nothing is sent. Where memory is
-- short, nothing was sent: it is so before the first call of the host, or at a deal. What says that no call of the host was made
-- is given.
abbrev pub Screened : Type 0 → ℕ → Status → Outside → Outside → Type 0
Screened unbegun most status old new =
    Streamed (λ read. []) (screen_text most) (end_of most) IsEnd IsAnswer
    ((input : List ℕ) → old.input ≡ Some input → (new.sent ≡ old.sent) × (unbegun ⊎ StopsAtDeal (bodies_of (take most input)))) most status old new
