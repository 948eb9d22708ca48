-- The input, read piece by piece, and the end of a stream.
use Rattle.std.proofs.Common.{◌≡◌, ◌⊎◌, inl, inr, ℕ, ◌-◌, ◌≤◌, cond, Bool, true, false, not, List, [], length, take, drop, refl, sym, ap, subst, ◌∙◌, arith}
use Rattle.std.specs.Prelude.{Option, nat_lt, nat_le, ◌&&◌}
use Rattle.std.specs.List.{concat}
use Rattle.std.proofs.Math.Seq.{take-add}
use Rattle.std.proofs.lemmas.List.{append-nil, take_all}
use Rattle.std.proofs.lemmas.Bool.Decides.{nat_tests}
use Rattle.host_core.specs.declared.status.Status.TheVariants.{SessionFull}
use Rattle.host_core.specs.Outside.{Outside}
use Rattle.stream_core.specs.Answering.{IsThrough}
use Rattle.text_core.specs.declared.kind.Kind.{Kind}
use Rattle.text_core.specs.declared.stream.Translation.{Translation}
use Rattle.text_core.specs.declared.task.Task.{Task}
use Rattle.text_core.specs.declared.task.Task.TheVariants.{Print}
use Rattle.text_core.specs.declared.writer.Writer.{Writer}
use Rattle.text_core.specs.declared.translator.Translator.{Translator}
use Rattle.text_core.specs.Streams.{units_of, rest_of, last_unit, output_of, text_of, text_for, units_within, end_of_good, end_of}
use Rattle.text_core.specs.InternalStreams.{Answers, Given, Reads, Translates, closed_units, end_of_input, ending_of}
use Rattle.wire_in.specs.Cutting.{pending}
use Rattle.text_core.proofs.Answering.{answers_more, answers_same}
use Rattle.text_core.proofs.Units.{IsPrefix, prefix_on, units_more, is_bad, outcome, still_bad, text_more, not_false}

-- these units, and at the end of an input its last line
pub closed_more : (task : Task) (at_end : Bool) (read : List ℕ) → IsPrefix (units_of task read) (closed_units task at_end read)
closed_more task true read = record { more = last_unit task (rest_of task read); whole = refl }
closed_more task false read = record { more = []; whole = append-nil (units_of task read) }

module _ (task : Task) (most : ℕ) (input : List ℕ) where
  -- the first bytes have the units of an input, and end as it does, where they are all of it or as many as may be read
  reached : (count : ℕ) → count ≤ most → count ≤ length input → (count ≡ length input) ⊎ (count ≡ most) → (closed_units task (nat_lt count most) (take count input) ≡ units_within task most input)
      × (cond (nat_le most count) SessionFull (end_of_input task (rest_of task (take count input))) ≡ end_of_good task most input)
  unfolding rest_of
  reached count le there either = grind (arith, nat_tests, take_all count input)

  whole_units : closed_units task (nat_lt (length input) most) (take most input) ≡ units_within task most input
  whole_units = grind (arith, nat_tests, take_all most input)

  -- the units of the first bytes stand before the others
  within_more : (count : ℕ) → count ≤ most → IsPrefix (units_of task (take count input)) (units_within task most input)
  within_more count le =
      let more : IsPrefix (take count input) (take most input) = record {
        more = take (most - count) (drop count input);
        whole = sym (take-add count (most - count) input) ∙ ap (λ (k : ℕ). take k input) (omega (arith, le));
      } in
      subst (λ (all : List (List ℕ)). IsPrefix (units_of task (take count input)) all) whole_units
      (prefix_on (units_more task more) (closed_more task (nat_lt (length input) most) (take most input)))

  -- and so does their text
  pub within_prefix : (kind : Kind) (count : ℕ) → count ≤ most → IsPrefix (text_for task kind (take count input)) (text_of task kind (units_within task most input))
  within_prefix kind count le = text_more task kind (within_more count le)

-- where it was read to a bad unit, to its end or to the most bytes
module _ {given : Given} {count most : ℕ} {waiting : List ℕ} {translation : Translation} {old : Outside} (translates : Translates given count waiting translation old)
    (through : IsThrough (text_for given.task given.kind) given.begin (not translation.translator.writer.bad) given.input count most old) where
  -- what was read comes to what all comes to, and ends as that does where no unit is bad
  agrees : (outcome (output_of given.task given.kind) (units_within given.task most given.input) ≡ outcome (output_of given.task given.kind) (closed_units given.task (nat_lt count most) (take count given.input)))
      × ((is_bad (output_of given.task given.kind) (units_within given.task most given.input) ≡ true)
      ⊎ (cond (nat_le most count) SessionFull (end_of_input given.task (rest_of given.task (take count given.input))) ≡ end_of_good given.task most given.input))
  agrees = elim through.ended [
    | inl stop ↦
        let bad = sym translates.reads.answers.bad_is ∙ not_false _ stop in
        let all = still_bad (output_of given.task given.kind) (within_more given.task most given.input count through.within) bad in
        let closed = still_bad (output_of given.task given.kind) (closed_more given.task (nat_lt count most) (take count given.input)) bad in
        (all ∙ sym closed, inl ((λ i. (all i).1) ∙ bad))
    | inr end ↦
        let whole = reached given.task most given.input count through.within through.there end.1 in
        (ap (outcome (output_of given.task given.kind)) (sym whole.0), inr whole.1)
  ]

  pub closed_text : text_of given.task given.kind (closed_units given.task (nat_lt count most) (take count given.input)) ≡ text_of given.task given.kind (units_within given.task most given.input)
  unfolding text_of
  closed_text = λ i. concat (sym agrees.0 i).0

  -- the status is the one that the input gives
  pub ends_so : {writer : Writer} {next : List ℕ} {sent : Option (List ℕ)} → Answers given.task given.kind given.begin (closed_units given.task (nat_lt count most) (take count given.input)) writer next sent
      → ending_of given.task writer (rest_of given.task (take count given.input)) count most ≡ end_of given.task given.kind most given.input
  ends_so {writer} {next} {sent} answers =
      let whole : Answers given.task given.kind given.begin (units_within given.task most given.input) writer next sent = answers_same agrees.0 answers in
      grind (arith, agrees.1)

-- the frame that is begun at the end
pub cutter_rest : (task : Task) {kind : Kind} {begin : Option (List ℕ)} {read : List ℕ} {translator : Translator} {waiting : List ℕ} {sent : Option (List ℕ)} (cutter : List ℕ) (bad : Bool) → Reads task kind begin read translator waiting sent
    → cutter ≡ translator.cutter → (translator.writer.bad ≡ true → bad ≡ true) → bad ≡ false → task ≡ Print → pending cutter ≡ rest_of task read
cutter_rest task cutter bad reads same still good print = grind (arith, reads.begun)

-- no last line is answered where a unit was bad, or the input has more
pub closed_none : {task : Task} {kind : Kind} {begin : Option (List ℕ)} {read : List ℕ} {translator : Translator} {waiting : List ℕ} {sent : Option (List ℕ)} (at_end : Bool) → at_end && not translator.writer.bad ≡ false
    → Reads task kind begin read translator waiting sent → Answers task kind begin (closed_units task at_end read) translator.writer waiting sent
closed_none false closed reads = reads.answers
closed_none {task} {read = read} true closed reads = answers_more (closed_more task true read) (not_false _ closed) reads.answers
