-- A rehearsal, record by record.
use Rattle.std.proofs.Common.{◌≡◌, ℕ, ◌+◌, ◌-◌, ◌≤◌, List, [], ◌∷◌, ◌++◌, length, refl, sym, ap, subst, ◌∙◌, length-append, arith, rules}
use Rattle.std.specs.Prelude.{None}
use Rattle.wire_in.specs.declared.record.Record.{Record}
use Rattle.rulebook.specs.Admission.{verdict}
use Rattle.rulebook.specs.Sent.{record_or_refusal, with_record}
use Rattle.gen_core.specs.declared.plan.DayPlan.{DayPlan}
use Rattle.gen_core.specs.declared.tally.Tally.{Tally}
use Rattle.gen_core.specs.Generated.{generated}
use Rattle.gen_core.specs.SummaryLines.{summary_lines}
use Rattle.gen_core.proofs.Listed.{generated_length}
use Rattle.shard_core.specs.Block.{followed, AreAdmissible}
use Rattle.evaluator_core.specs.Evaluating.{IsAhead}
use Rattle.engine_core.specs.declared.engine.Engine.{Engine}
use Rattle.engine_core.specs.EngineState.{Represents}
use Rattle.replay_core.specs.Replayed.{capacity}
use Rattle.rehearse_core.specs.Rehearsed.{accepted_after, lines_for, summary_of}
use Rattle.rehearse_core.specs.InternalRehearsal.{Rehearses, accepted_by}

-- what waits, with one record more
followed-one : (applied xs : List Record) (x : Record) → followed applied (xs ++ x ∷ []) ≡ x ∷ followed applied xs
followed-one applied [] x = refl
followed-one applied (y ∷ ys) x = followed-one (y ∷ applied) ys x

admissible-one : (applied xs : List Record) (x : Record) → AreAdmissible capacity applied xs → verdict capacity (followed applied xs) x ≡ None → AreAdmissible capacity applied (xs ++ x ∷ [])
admissible-one applied [] x all one = (one, tt)
admissible-one applied (y ∷ ys) x all one = (all.0, admissible-one (y ∷ applied) ys x all.1 one)

-- an accepted record waits behind the others
pub one_accepted : {all left waiting : List Record} {x : Record} {engine : Engine} {tally : Tally} (was : Rehearses all (x ∷ left) waiting [] engine tally) (after : Engine)
    → verdict capacity (accepted_by was) x ≡ None → ((limit : ℕ) (accepted evaluated : List Record) → Represents engine limit accepted evaluated → Represents after limit (x ∷ accepted) evaluated)
    → after ≡ record engine { admission = after.admission } → Rehearses all left (waiting ++ x ∷ []) [] after tally
one_accepted {left = left} {waiting = waiting} {x = x} was after none admits same = record {
  evaluated = was.evaluated;
  represents = rw (followed-one was.evaluated waiting x) (admits capacity (accepted_by was) was.evaluated was.represents);
  admissible = admissible-one was.evaluated waiting x was.admissible none;
  ahead = subst (λ (e : Engine). IsAhead e.evaluator []) (sym same) was.ahead;
  counted = was.counted;
  rest = ap (λ (held : List Record). accepted_after held left) (followed-one was.evaluated waiting x)
      ∙ ap (λ v. accepted_after (with_record (accepted_by was) (record_or_refusal x v)) left) (sym none) ∙ was.rest;
  within = omega (arith, was.within, ap (λ (e : Engine). e.evaluated) same, length-append waiting (x ∷ []));
}

-- those that wait were evaluated ahead
pub block_ahead : {all left waiting : List Record} {engine : Engine} {tally : Tally} (was : Rehearses all left waiting [] engine tally) (after : Engine)
    → Represents after capacity (accepted_by was) was.evaluated → IsAhead after.evaluator waiting → after.evaluated ≡ engine.evaluated → Rehearses all left waiting waiting after tally
block_ahead was after represents ahead still = search rules

-- All records of a plan were judged.
module _ (plan : DayPlan) {engine : Engine} {tally : Tally} (done : Rehearses (generated plan) [] [] [] engine tally) where
  pub lines_of_all : (records : ℕ) → records ≡ 1 + plan.symbols + plan.records → summary_lines records (records - engine.evaluated) tally ≡ summary_of plan
  unfolding summary_of
  lines_of_all records is =
      let count : records ≡ length (generated plan) = omega (arith, is, generated_length plan) in
      (λ i. summary_lines (count i) (count i - done.represents.evaluated_is i) (done.counted i)) ∙ ap (lines_for (length (generated plan))) done.rest

  -- and at most so many were accepted
  pub at_most_all : engine.evaluated ≤ 1 + plan.symbols + plan.records
  at_most_all = omega (arith, done.within, generated_length plan)
