-- What is answered of a stream, unit after unit.
use Rattle.std.proofs.Common.{◌≡◌, ℕ, ◌+◌, ◌==◌, Bool, true, false, List, [], ◌∷◌, ◌++◌, length, take, refl, sym, ap, subst, ◌∙◌, length-append, arith, true≢false}
use Rattle.std.specs.Prelude.{Option, Some, None}
use Rattle.std.specs.List.{concat}
use Rattle.std.proofs.lemmas.Bool.{eqb-true}
use Rattle.std.proofs.lemmas.List.{append-nil, nil_from_length}
use Rattle.std.proofs.lemmas.List.Folds.{concat-append}
use Rattle.wire_core.specs.Frames.{framed}
use Rattle.wire_in.specs.Cutting as frames
use Rattle.wire_in.specs.Cutting.{pending}
use Rattle.wire_in.proofs.Cuts.{bodies_of-append, rest_of-append, cut_framed}
use Rattle.text_core.specs.declared.kind.Kind.{Kind}
use Rattle.text_core.specs.declared.task.Task.{Task}
use Rattle.text_core.specs.declared.task.Task.TheVariants.{Print, Pack}
use Rattle.text_core.specs.declared.writer.Writer.{Writer}
use Rattle.text_core.specs.declared.translator.Translator.{Translator}
use Rattle.text_core.specs.Streams.{units_of, rest_of, last_unit, outputs, output_of, text_of}
use Rattle.text_core.specs.InternalStreams.{Answers, Reads, IsOneLine}
use Rattle.host_core.specs.Outside.{Outside, Elapses}
use Rattle.stream_core.specs.Pending.{Expects, SendsPrefix}
use Rattle.stream_core.proofs.Sending.{sends_longer}
use Rattle.text_core.proofs.Units.{IsPrefix, units_more, line_units, line_rest, part_units, part_rest, outcome, still_bad, one_more, same_last, cut_output, cut_more}

-- a run that sends a prefix of a text sends one of a longer text
pub sends_more : {begin : Option (List ℕ)} {old new : Outside} {text long : List ℕ} → IsPrefix text long → Elapses old new (SendsPrefix begin text old) → Elapses old new (SendsPrefix begin long old)
sends_more prefix run = sends_longer _ prefix.more _ prefix.whole run

-- answers, by what is sent for the units and whether one is bad
pub answers_by : {task : Task} {kind : Kind} {begin : Option (List ℕ)} {units : List (List ℕ)} {writer : Writer} {waiting : List ℕ} {sent : Option (List ℕ)} {o : List (List ℕ) × Bool}
    → outcome (output_of task kind) units ≡ o → writer.number ≡ length o.0 → writer.bad ≡ o.1 → Expects begin sent waiting (concat o.0) → Answers task kind begin units writer waiting sent
unfolding text_of
answers_by {begin = begin} {waiting = waiting} {sent = sent} is number bad expects = record {
  number_is = number ∙ (λ i. length (sym is i).0);
  bad_is = bad ∙ (λ i. (sym is i).1);
  pending_is = subst (λ (o : List (List ℕ) × Bool). Expects begin sent waiting (concat o.0)) (sym is) expects;
}

module _ {task : Task} {kind : Kind} {begin : Option (List ℕ)} {writer : Writer} {waiting : List ℕ} {sent : Option (List ℕ)} where
  -- the same answers, where other units come to the same
  pub answers_same : {a b : List (List ℕ)} → outcome (output_of task kind) b ≡ outcome (output_of task kind) a → Answers task kind begin a writer waiting sent → Answers task kind begin b writer waiting sent
  unfolding text_of
  answers_same same answers = answers_by same answers.number_is answers.bad_is answers.pending_is

  -- behind a bad unit nothing more is answered
  pub answers_more : {units all : List (List ℕ)} → IsPrefix units all → writer.bad ≡ true → Answers task kind begin units writer waiting sent → Answers task kind begin all writer waiting sent
  answers_more prefix bad answers = answers_same (still_bad (output_of task kind) prefix (sym answers.bad_is ∙ bad)) answers

  -- one unit more, which has a value
  pub answered_good : {units : List (List ℕ)} → Answers task kind begin units writer waiting sent → writer.bad ≡ false → (unit : List ℕ) {output outbox written : List ℕ} {now : Option (List ℕ)} → output_of task kind unit ≡ Some output
      → Expects begin now outbox (text_of task kind units ++ output) → Answers task kind begin (units ++ unit ∷ []) (record { number = writer.number + 1; bad = writer.bad; output = written }) outbox now
  unfolding text_of
  answered_good {units} answers going unit {output} is expects =
      answers_by (one_more (output_of task kind) units unit (sym answers.bad_is ∙ going) is)
      (omega (arith, answers.number_is, length-append (outputs (output_of task kind) units) (output ∷ []))) going (rw (concat-append, append-nil output) expects)

  -- or one that has none
  pub answered_bad : {units : List (List ℕ)} → Answers task kind begin units writer waiting sent → writer.bad ≡ false → (unit : List ℕ) {written : List ℕ} → output_of task kind unit ≡ None
      → Answers task kind begin (units ++ unit ∷ []) (record { number = writer.number; bad = true; output = written }) waiting sent
  unfolding text_of
  answered_bad {units} answers going unit is =
      let same : outcome (output_of task kind) (units ++ unit ∷ []) ≡ (outputs (output_of task kind) units, true) =
      one_more (output_of task kind) units unit (sym answers.bad_is ∙ going) is ∙ rw (append-nil (outputs (output_of task kind) units)) in
      answers_by same answers.number_is refl answers.pending_is

module _ {task : Task} {kind : Kind} {begin : Option (List ℕ)} {translator : Translator} {waiting : List ℕ} {sent : Option (List ℕ)} where
  -- other bytes, which are the same
  pub reads_same : {a b : List ℕ} → a ≡ b → Reads task kind begin a translator waiting sent → Reads task kind begin b translator waiting sent
  reads_same same reads = subst (λ (read : List ℕ). Reads task kind begin read translator waiting sent) same reads

  -- bytes behind a bad unit are passed over
  pub reads_rest : {read all : List ℕ} → IsPrefix read all → translator.writer.bad ≡ true → Reads task kind begin read translator waiting sent → Reads task kind begin all translator waiting sent
  reads_rest prefix bad reads = record { answers = answers_more (units_more task prefix) bad reads.answers; begun = λ good. absurd (true≢false (sym bad ∙ good)) }

-- a whole frame behind whole frames
pub whole_on : (read taken body : List ℕ) → frames.rest_of read ≡ [] → framed body ≡ taken → (frames.bodies_of (read ++ taken) ≡ frames.bodies_of read ++ body ∷ []) × (frames.rest_of (read ++ taken) ≡ [])
whole_on read taken body none is = grind (arith, bodies_of-append read taken, rest_of-append read taken, cut_framed body)

module _ {kind : Kind} {begin : Option (List ℕ)} {translator : Translator} {waiting : List ℕ} {sent : Option (List ℕ)} where
  -- the frame that is begun
  pub frame_begun : {read : List ℕ} → Reads Print kind begin read translator waiting sent → translator.writer.bad ≡ false → pending translator.cutter ≡ frames.rest_of read
  unfolding rest_of
  frame_begun reads going = reads.begun going

  -- frames more
  pub reads_frames : (read taken : List ℕ) (more : List (List ℕ)) → frames.bodies_of (read ++ taken) ≡ frames.bodies_of read ++ more → pending translator.cutter ≡ frames.rest_of (read ++ taken)
      → Answers Print kind begin (units_of Print read ++ more) translator.writer waiting sent → Reads Print kind begin (read ++ taken) translator waiting sent
  unfolding units_of rest_of
  reads_frames read taken more bodies rest answers = record {
    answers = subst (λ (units : List (List ℕ)). Answers Print kind begin units translator.writer waiting sent) (sym bodies) answers;
    begun = λ going. rest;
  }

  -- a line more, of which the first bytes were kept, and which gives what a unit gives
  pub reads_line : (read line last unit : List ℕ) → IsOneLine last → line ≡ take 256 (rest_of Pack read) → output_of Pack kind (take 256 (line ++ last)) ≡ output_of Pack kind unit
      → translator.line ≡ [] → Answers Pack kind begin (units_of Pack read ++ unit ∷ []) translator.writer waiting sent → Reads Pack kind begin (read ++ last ++ 10 ∷ []) translator waiting sent
  reads_line read line last unit one is gives empty answers =
      let whole : output_of Pack kind (rest_of Pack read ++ last) ≡ output_of Pack kind unit = grind (arith, cut_more (rest_of Pack read) last, cut_output kind (rest_of Pack read ++ last)) in
      record {
        answers = rw (line_units read last one) (answers_same (same_last (output_of Pack kind) (units_of Pack read) (rest_of Pack read ++ last) unit whole) answers);
        begun = λ going. rw (line_rest read last) empty;
      }

  -- bytes of a line more
  pub reads_more : (read line bytes : List ℕ) → IsOneLine bytes → line ≡ take 256 (rest_of Pack read)
      → translator.line ≡ take 256 (line ++ bytes) → Answers Pack kind begin (units_of Pack read) translator.writer waiting sent → Reads Pack kind begin (read ++ bytes) translator waiting sent
  reads_more read line bytes one is kept answers = record {
    answers = rw (part_units read bytes one) answers;
    begun = λ going. grind (arith, part_rest read bytes one, cut_more (rest_of Pack read) bytes);
  }

pub empty_is : (line : List ℕ) → (length line == 0) ≡ true → line ≡ []
empty_is line is = nil_from_length line (eqb-true (length line) 0 is)

-- no line is left
pub no_last : (line rest : List ℕ) → line ≡ take 256 rest → line ≡ [] → last_unit Pack rest ≡ []
no_last line rest is empty = grind arith

-- the last line
pub last_line : {kind : Kind} {begin : Option (List ℕ)} {waiting : List ℕ} {sent : Option (List ℕ)} {writer : Writer} (units : List (List ℕ)) (line rest : List ℕ) → line ≡ take 256 rest → (length line == 0) ≡ false
    → Answers Pack kind begin (units ++ line ∷ []) writer waiting sent → Answers Pack kind begin (units ++ last_unit Pack rest) writer waiting sent
last_line units line [] is some answers = absurd (true≢false (sym (ap (λ (l : List ℕ). length l == 0) is) ∙ some))
last_line {kind} units line (b ∷ rest) is some answers =
    answers_same (same_last (output_of Pack kind) units (b ∷ rest) line (sym (ap (output_of Pack kind) is ∙ cut_output kind (b ∷ rest)))) answers
