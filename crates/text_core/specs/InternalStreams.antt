-- A stream on its way: what was read of it, what was answered, and what is pending.
use Rattle.std.specs.Prelude.{◌≡◌, ℕ, ◌+◌, ◌==◌, nat_le, nat_lt, if◌then◌else◌, true, false, not, Bool, List, [], ◌++◌, length, take, Option}
use Rattle.std.proofs.Common.{◌<◌, ◌≤◌, ◌^◌, refl, subst, ◌∙◌, arith}
use Rattle.std.specs.Io.KnownBytes.{append_known}
use Rattle.std.specs.List.{list_all}
use Rattle.host_core.specs.declared.status.Status.{Status}
use Rattle.host_core.specs.declared.status.Status.TheVariants.{Done, Truncated, SessionFull, BadText}
use Rattle.wire_in.specs.Cutting as frames
use Rattle.text_core.specs.declared.kind.Kind.{Kind}
use Rattle.text_core.specs.declared.task.Task.{Task}
use Rattle.text_core.specs.declared.task.Task.TheVariants.{Print, Pack}
use Rattle.text_core.specs.declared.writer.Writer.{Writer}
use Rattle.host_core.specs.Outside.{Outside, Elapses}
use Rattle.text_core.specs.declared.translator.Translator.{Translator}
use Rattle.text_core.specs.declared.stream.Translation.{Translation}
use Rattle.stream_core.specs.Taking.{OnlyExchanges}
use Rattle.stream_core.proofs.Pieces.{exchanges_both}
use Rattle.stream_core.proofs.Pending.{expects_nothing}
use Rattle.text_core.specs.Translated.{IsEnd, IsAnswer}
use Rattle.stream_core.specs.Pending.{Expects, SendsPrefix}
use Rattle.text_core.specs.Streams.{units_of, rest_of, last_unit, output_of, outputs, text_of, text_for, units_within}

-- so many of these units were answered, and then one was bad, or all were
pub record Answers (task : Task) (kind : Kind) (begin : Option (List ℕ)) (units : List (List ℕ)) (writer : Writer) (waiting : List ℕ) (sent : Option (List ℕ)) : Type 0 where
  pub number_is : writer.number ≡ length (outputs (output_of task kind) units)
  pub bad_is : writer.bad ≡ nat_lt (length (outputs (output_of task kind) units)) (length units)
  pub pending_is : Expects begin sent waiting (text_of task kind units)

-- what is begun behind the whole units; of a line its first 256 bytes are kept
abbrev pub Begins : Task → Translator → List ℕ → Type 0
Begins Print translator rest = frames.pending translator.cutter ≡ rest
Begins Pack translator rest = translator.line ≡ take 256 rest

-- these bytes have no newline
abbrev pub IsOneLine : List ℕ → Type 0
IsOneLine bytes = list_all (λ b. not (b == 10)) bytes ≡ true

-- these bytes were read, and their whole units answered, up to the first that is bad
pub record Reads (task : Task) (kind : Kind) (begin : Option (List ℕ)) (read : List ℕ) (translator : Translator) (waiting : List ℕ) (sent : Option (List ℕ)) : Type 0 where
  pub answers : Answers task kind begin (units_of task read) translator.writer waiting sent
  pub begun : translator.writer.bad ≡ false → Begins task translator (rest_of task read)

-- a run comes to this at its end, and at each of its moments only the first of this text was sent
pub record Run (begin : Option (List ℕ)) (text : List ℕ) (old new : Outside) (end : Type 0) : Type 0 where
  pub ends : end
  pub moments : Elapses old new (SendsPrefix begin text old)

-- what a stream is given: what it is taken for, what its lines are of, what had been sent before, its input, and how many bytes of
-- that may be read
pub record Given : Type 0 where
  pub task : Task
  pub kind : Kind
  pub begin : Option (List ℕ)
  pub input : List ℕ
  pub most : ℕ

-- so many bytes were read, and their text is the first of that of the input
pub record Translates (given : Given) (count : ℕ) (waiting : List ℕ) (translation : Translation) (now : Outside) : Type 0 where
  pub task_is : translation.task ≡ given.task
  pub kind_is : translation.kind ≡ given.kind
  pub reads : Reads given.task given.kind given.begin (take count given.input) translation.translator waiting now.sent
  pub more : List ℕ
  pub whole : text_for given.task given.kind (take count given.input) ++ more ≡ text_of given.task given.kind (units_within given.task given.most given.input)

-- what is sent for the input
abbrev pub whole_text : Given → List ℕ
whole_text given = text_of given.task given.kind (units_within given.task given.most given.input)

-- a run of a stream, over the same task, leaves the disk alone
pub record Rests (first next : Translation) (old new : Outside) : Type 0 where
  pub same : next.task ≡ first.task
  pub keeps : OnlyExchanges old new

pub rests_on : {first next last : Translation} {old mid new : Outside} → Rests first next old mid → Rests next last mid new → Rests first last old new
rests_on before after = record { same = after.same ∙ before.same; keeps = exchanges_both before.keeps after.keeps }

-- it ends as one of its task does
pub ends_before : (first next : Translation) (status : Status) {old new : Outside} → Rests first next old new → IsEnd status × IsAnswer next.task status → IsEnd status × IsAnswer first.task status
ends_before first next status rests end = (end.0, subst (λ (task : Task). IsAnswer task status) rests.same end.1)

-- and may be given fewer bytes
pub fewer_left : (translation : Translation) (fewer more : ℕ) → fewer ≤ more → translation.translator.writer.number + more < 2 ^ 42 → translation.translator.writer.number + fewer < 2 ^ 42
fewer_left translation fewer more le few = omega (arith, le, few)

-- once all was sent, nothing waits
pub translates_sent : {given : Given} {count : ℕ} {waiting : List ℕ} {translation : Translation} {old : Outside} (new : Outside) → Translates given count waiting translation old
    → new.sent ≡ append_known given.begin (text_for given.task given.kind (take count given.input)) → Translates given count [] translation new
translates_sent new translates sent = record {
  task_is = translates.task_is;
  kind_is = translates.kind_is;
  reads = record {
    answers = record {
      number_is = translates.reads.answers.number_is;
      bad_is = translates.reads.answers.bad_is;
      pending_is = expects_nothing _ _ [] _ refl sent;
    };
    begun = translates.reads.begun;
  };
  more = translates.more;
  whole = translates.whole;
}

-- these units, and at the end of an input what is left as its last line
abbrev pub closed_units : Task → Bool → List ℕ → List (List ℕ)
closed_units task at_end read = if at_end then units_of task read ++ last_unit task (rest_of task read) else units_of task read

-- how a stream ends with such a rest that has no bad unit
abbrev pub end_of_input : Task → List ℕ → Status
end_of_input Pack rest = Done
end_of_input Print rest = if length rest == 0 then Done else Truncated

-- how it ends that has answered so, with such a rest of the input, where so many bytes of at most so many were read
abbrev pub ending_of : Task → Writer → List ℕ → ℕ → ℕ → Status
ending_of task writer rest read most =
    if writer.bad then BadText (writer.number + 1)
    else if nat_le most read then SessionFull
    else end_of_input task rest
