-- What a session keeps, and what it represents.
use Rattle.std.specs.Prelude.{◌≡◌, ℕ, ◌+◌, ◌-◌, ◌*◌, ◌^◌, ◌≤◌, List, [], ◌++◌, length, take, drop, Option, Some, Result, Err, OnOk}
use Rattle.host_core.specs.declared.fault.Fault.{Fault}
use Rattle.host_core.specs.declared.fault.Fault.TheVariants.{Memory}
use Rattle.host_core.specs.Outside.{Outside, Agrees, Elapses, Continues}
use Rattle.wire_in.specs.declared.record.Record.{Record}
use Rattle.wire_in.specs.Cutting.{pending, bodies_of, rest_of}
use Rattle.journal_core.specs.Layout.{records_of}
use Rattle.journal_core.specs.Extended.{HaveAtMost}
use Rattle.journal_core.specs.Journal.{Adds}
use Rattle.market_core.specs.MarketState.{most_messages}
use Rattle.engine_core.specs.declared.engine.Engine.{Engine}
use Rattle.engine_core.specs.declared.session.Session.{Session}
use Rattle.engine_core.specs.Answering.{Answers}
use Rattle.engine_core.specs.EngineState.{IsRoomy}
use Rattle.engine_core.specs.Rounds.{Outcome, records_in}
use Rattle.engine_core.specs.Sessions.{Start, IsSafe, Starved, held_after}
use Rattle.engine_core.specs.Unwritten.{WritesNothing, AcceptsNone}

-- The whole frames of the bytes read were judged, these of them were answered, and the others wait in the session's round;
-- the rest of the bytes is the frame begun. No record is evaluated ahead.
pub record Judges (start : Start) (answered : List (List ℕ)) (read : List ℕ) (sent : Option (List ℕ)) (session : Session) : Type 0 where
  pub cutter : pending session.cutter ≡ rest_of read
  pub answers : Answers start answered (bodies_of read) session.answered session.round.outcomes [] session.engine session.outbox sent

-- and what the answered frames gave is held
pub record Serves (holds : List Record → Outside → Type 0) (start : Start) (read : List ℕ) (session : Session) (now : Outside) : Type 0 where
  pub answered : List (List ℕ)
  pub judges : Judges start answered read now.sent session
  pub held : holds (held_after start answered) now

-- so many bytes of the input were read, and their whole frames answered
pub record Reads (holds : List Record → Outside → Type 0) (start : Start) (input : List ℕ) (count : ℕ) (session : Session) (now : Outside) : Type 0 where
  pub input_left : now.input ≡ Some (drop count input)
  pub there : count ≤ length input
  pub serves : Serves holds start (take count input) session now

-- Admission has accepted what was evaluated and what waits, within its capacity, counts stay far below the ends of their
-- types, and there is room for messages.
pub record IsSound (engine : Engine) (outcomes : List Outcome) (answered : ℕ) : Type 0 where
  pub within : engine.admission.count ≤ engine.admission.capacity
  pub count : engine.admission.count ≡ engine.evaluated + length (records_in outcomes)
  pub few : engine.published ≤ most_messages * engine.evaluated
  pub small : engine.evaluated ≤ 2 ^ 32 + answered
  pub roomy : IsRoomy engine

-- and the keeper has room for every record that admission may still accept, and keeps as many at once as a round has frames
pub record IsReady (has_room : ℕ → Type 0) (at_once : ℕ) (session : Session) : Type 0 where
  pub sound : IsSound session.engine session.round.outcomes session.answered
  pub room : has_room (session.engine.admission.capacity - session.engine.evaluated)
  pub some : 1 ≤ session.round.most
  pub most : session.round.most ≤ at_once

-- a keep leaves the records as they were, before the batch is kept or meanwhile, or with the batch, and sends nothing
pub record Keeps (recovers : List Record → List (List Record) → List ℕ → Type 0) (records batch : List Record) (old : Outside) (image bytes : List ℕ) : Type 0 where
  pub adds : Adds (λ held pending. recovers held pending image) records batch
  pub sent : Agrees old.sent bytes

-- The image recovers these records while one batch at most is being kept, of at most so many records, which are the next that the
-- frames of these bodies give.
pub record IsKeeping (most : ℕ) (recovers : List Record → List (List Record) → List ℕ → Type 0) (start : Start) (bodies : List (List ℕ)) (records : List Record) (image : List ℕ) : Type 0 where
  pub pending : List (List Record)
  pub few : length pending ≤ 1
  pub small : HaveAtMost most pending
  pub more : List Record
  pub next : more ++ (records_of pending ++ records) ≡ held_after start bodies
  pub recovered : recovers records pending image

-- what a stop leaves is safe, and of the frames behind those whose records it recovers it has at most the next batch in part
abbrev pub Leaves : (most : ℕ) (recovers : List Record → List (List Record) → List ℕ → Type 0) (start : Start) (bodies : List (List ℕ)) → List ℕ → List ℕ → Type 0
Leaves most recovers start bodies = IsSafe (IsKeeping most recovers start bodies) start bodies

-- the input is not read, and to the disk that alone is done which may be
pub record OnlyAnswers (touches : Outside → Outside → Type 0) (old new : Outside) : Type 0 where
  pub input : new.input ≡ old.input
  pub asks : new.asks ≡ old.asks
  pub read_faults : new.read_faults ≡ old.read_faults
  pub continues : Continues old new
  pub to_disk : touches old new

-- A run of a session. Where it goes on, these bytes are served, and what recovers records then has recovered them before. Of all
-- bytes, its stops leave what is safe for them, with at most so many records in the batch that is being kept, it writes nothing
-- where no record of them is accepted, and memory may have been short at one of their frames.
pub record Runs {T : Type 0} (most : ℕ) (holds : List Record → Outside → Type 0) (recovers later : List Record → List (List Record) → List ℕ → Type 0) (start : Start) (read all : List ℕ) (result : Result T Fault) (session : Session) (old new : Outside) : Type 0 where
  pub serves : OnOk result (Serves holds start read session new)
  pub before : OnOk result ((records : List Record) (pending : List (List Record)) (image : List ℕ) → later records pending image → recovers records pending image)
  pub moments : Elapses old new (Leaves most recovers start (bodies_of all))
  pub nothing : AcceptsNone start (bodies_of all) → WritesNothing old new
  pub starved : result ≡ Err Memory → Starved start (bodies_of all) new
