-- What a session expects to send, and what a stop of it may leave.
use Rattle.std.specs.Prelude.{◌≡◌, ℕ, ◌≤◌, Bool, true, false, List, ◌∷◌, ◌++◌, length, take, drop, Option, Some, Ok}
use Rattle.std.specs.Io.KnownBytes.{append_known}
use Rattle.host_core.specs.Outside.{Outside, Ask, Agrees}
use Rattle.wire_in.specs.declared.record.Record.{Record}
use Rattle.wire_in.specs.Cutting.{bodies_of}
use Rattle.wire_out.specs.declared.message.Frame.{Frame}
use Rattle.rulebook.specs.Sent.{accepted_of, judged, replies, unacknowledged, spelled}
use Rattle.market_core.specs.Kinds.{TakesMemory}
use Rattle.stream_core.specs.Asking as asking

-- What a session begins with: how many workers it has, the capacity of records, the records that are held, the newest first,
-- whether accepted records are acknowledged, what is sent before the first frame is answered, and what was sent before, where
-- it is known.
pub record Start : Type 0 where
  pub workers : ℕ
  pub capacity : ℕ
  pub held : List Record
  pub acknowledges : Bool
  pub opening : List ℕ
  pub sent : Option (List ℕ)

-- the records that are held after the frames of these bodies
abbrev pub held_after : Start → List (List ℕ) → List Record
held_after start bodies = accepted_of start.capacity start.held bodies

-- frames with the acknowledgements among them, or without
abbrev pub with_acknowledgements : Bool → List Frame → List Frame
with_acknowledgements true frames = frames
with_acknowledgements false frames = unacknowledged frames

-- all that is sent for the frames of these bodies
unfoldable pub expected : Start → List (List ℕ) → List ℕ
expected start bodies = start.opening ++ spelled (with_acknowledgements start.acknowledges (replies start.capacity 1 start.held bodies))

-- For some number of the first frames, the image is one that recovers the records from before and those that these
-- frames gave, and what was sent since the start is a prefix of what is expected for them.
pub record IsSafe (recovers : List Record → List ℕ → Type 0) (start : Start) (bodies : List (List ℕ)) (image bytes : List ℕ) : Type 0 where
  pub count : ℕ
  pub within : count ≤ length bodies
  pub recovered : recovers (held_after start (take count bodies)) image
  pub since : List ℕ
  pub unsent : List ℕ
  pub sent : Agrees (append_known start.sent since) bytes
  pub prefix : since ++ unsent ≡ expected start (take count bodies)

-- So many bytes of the input were read, all that is expected for them was sent, and the records that they gave are held.
pub record Answered (holds : List Record → Outside → Type 0) (start : Start) (input : List ℕ) (count : ℕ) (now : Outside) : Type 0 where
  pub input_left : now.input ≡ Some (drop count input)
  pub there : count ≤ length input
  pub sent : now.sent ≡ append_known start.sent (expected start (bodies_of (take count input)))
  pub held : holds (held_after start (bodies_of (take count input))) now

-- The first of these frames, behind the answered ones, brings a record that is accepted, and that takes memory where there is
-- one worker.
pub record TakesNext (start : Start) (answered waiting : List (List ℕ)) : Type 0 where
  pub body : List ℕ
  pub later : List (List ℕ)
  pub first : waiting ≡ body ∷ later
  pub x : Record
  pub accepted : judged start.capacity (held_after start answered) body ≡ Ok x
  pub takes : start.workers ≡ 1 → TakesMemory x

-- All that is expected for some of the first frames, and no more, was sent; the frame behind them brings a record that is
-- accepted, and where there is one worker, one that takes memory.
pub record Starved (start : Start) (bodies : List (List ℕ)) (now : Outside) : Type 0 where
  pub answered : List (List ℕ)
  pub waiting : List (List ℕ)
  pub frames : bodies ≡ answered ++ waiting
  pub short : TakesNext start answered waiting
  pub sent : now.sent ≡ append_known start.sent (expected start answered)

-- what is expected for the whole frames of these bytes
abbrev pub answers_to : Start → List ℕ → List ℕ
answers_to start read = expected start (bodies_of read)

-- behind the reads from before stand those of the session, and when each began, some of the first bytes of the input had been
-- read, and all that is expected for the whole frames among them, no more and no less, had been sent
abbrev pub Prompt : Start → List ℕ → Option (List Ask) → Option (List Ask) → Type 0
Prompt start = asking.Prompt (answers_to start) start.sent
