-- The messages among the frames of a replay.
use Rattle.std.proofs.Common.{◌≡◌, ℕ, ◌+◌, List, [], ◌∷◌, ◌++◌, length, refl, sym, ap, ◌∙◌, append_assoc}
use Rattle.std.specs.Prelude.{Result, Ok, Err}
use Rattle.std.proofs.lemmas.List.{append-nil}
use Rattle.wire_in.specs.declared.record.Record.{Record}
use Rattle.wire_in.specs.declared.record.Refusal.{Refusal}
use Rattle.wire_in.specs.Refusals.{code_of, field_of}
use Rattle.wire_out.specs.declared.message.Message.{Message}
use Rattle.wire_out.specs.declared.message.Frame.{Frame}
use Rattle.wire_out.specs.declared.message.Frame.TheVariants.{Hello, Numbered, Ack, Refused}
use Rattle.wire_out.specs.declared.message.Stamped.{Stamped}
use Rattle.rulebook.specs.Book as book
use Rattle.rulebook.specs.Book.{newest_messages}
use Rattle.rulebook.specs.Sent.{accepted_of, judged, numbered, replies, reply, unacknowledged, with_record}
use Rattle.rulebook.proofs.Sending.{unacknowledged-append, unacknowledged-step}
use Rattle.screen_core.specs.Screened.{capacity, messages_in, said}
use Rattle.screen_core.specs.InternalDesk.{said_in}
use Rattle.screen_core.proofs.Messages.{said-more}

in-append : (a b : List Frame) → messages_in (a ++ b) ≡ messages_in a ++ messages_in b
in-append [] b = refl
in-append (Hello records messages ∷ a) b = in-append a b
in-append (Numbered number m ∷ a) b = ap (λ (later : List Message). m.message ∷ later) (in-append a b)
in-append (Ack number ∷ a) b = in-append a b
in-append (Refused number code field ∷ a) b = in-append a b

in-numbered : (n : ℕ) (ms : List Stamped) → messages_in (numbered n ms) ≡ said_in ms
in-numbered n [] = refl
in-numbered n (m ∷ ms) = ap (λ (later : List Message). m.message ∷ later) (in-numbered (n + 1) ms)

-- the messages of one frame, and then those of the later ones
replayed : (number : ℕ) (held : List Record) (r : Result Record Refusal) (later : List Frame) (all : List Message)
    → said (with_record held r) ++ messages_in (unacknowledged later) ≡ all → said held ++ messages_in (unacknowledged (reply number held r ++ later)) ≡ all
replayed number held (Ok x) later all rest =
    let first = numbered (length (book.messages_of held)) (newest_messages (x ∷ held)) in
    let own : messages_in (unacknowledged (first ++ Ack (length held + 1) ∷ [])) ≡ said_in (newest_messages (x ∷ held)) =
    ap messages_in (unacknowledged-step (length (book.messages_of held)) (length held + 1) (newest_messages (x ∷ held))) ∙ in-numbered (length (book.messages_of held)) (newest_messages (x ∷ held)) in
    ap (λ (frames : List Frame). said held ++ messages_in frames) (unacknowledged-append (first ++ Ack (length held + 1) ∷ []) later)
    ∙ ap (λ (ms : List Message). said held ++ ms) (in-append (unacknowledged (first ++ Ack (length held + 1) ∷ [])) (unacknowledged later))
    ∙ ap (λ (ms : List Message). said held ++ (ms ++ messages_in (unacknowledged later))) own
    ∙ sym (append_assoc (said held) (said_in (newest_messages (x ∷ held))) (messages_in (unacknowledged later)))
    ∙ ap (λ (ms : List Message). ms ++ messages_in (unacknowledged later)) (sym (said-more x held))
    ∙ rest
replayed number held (Err refusal) later all rest =
    ap (λ (frames : List Frame). said held ++ messages_in frames) (unacknowledged-append (Refused number (code_of refusal) (field_of refusal) ∷ []) later) ∙ rest

all_replayed : (number : ℕ) (held : List Record) (bodies : List (List ℕ)) → said held ++ messages_in (unacknowledged (replies capacity number held bodies)) ≡ said (accepted_of capacity held bodies)
all_replayed number held [] = append-nil (said held)
all_replayed number held (body ∷ later) =
    let r = judged capacity held body in
    replayed number held r (replies capacity (number + 1) (with_record held r) later) _ (all_replayed (number + 1) (with_record held r) later)

pub tells_of_a_replay : (bodies : List (List ℕ)) → messages_in (unacknowledged (replies capacity 1 [] bodies)) ≡ said (accepted_of capacity [] bodies)
tells_of_a_replay bodies = all_replayed 1 [] bodies
