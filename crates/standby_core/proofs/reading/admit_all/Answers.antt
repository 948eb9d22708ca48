use Rattle.std.proofs.Common.{◌≡◌, ◌≢◌, ◌+◌, List, ◌++◌, None, take, drop, refl, sym, ap, subst, ◌∙◌, arith, rules}
use Rattle.std.proofs.lemmas.List.{take_all, take-append-drop}
use Rattle.wire_in.specs.declared.record.Record.{Record}
use Rattle.journal_core.specs.Layout.{with_batch}
use Rattle.recovery_core.proofs.Recovering.{with_next}
use Rattle.standby_core.specs.Reading.{Admits}
use Rattle.standby_core.proofs.Admitting.{drop_one, judges}
use Rattle.standby_core.proofs.OneFrame.{has_place}
use Rattle.standby_core.proofs.reading.admit_all.Goals as goal

pub loop-x-init : goal.loop-x-init
loop-x-init c = record {
  admits = λ capacity base accepted first. first;
  within = c.requires.within;
  count = omega arith;
  capacity = refl;
}

pub loop-x-preserved : goal.loop-x-preserved
loop-x-preserved c =
    let xs = c.args.records.now in
    let i = c.loop-x.x-index in
    let x = c.x-item.result in
    let none : c.verdict.result ≡ None = search rules in
    record {
      admits = λ capacity base accepted first.
          let a = c.loop-x.invariant.admits capacity base accepted first in
          subst (λ (all : List Record). Admits capacity base all c.admit.new.admission) (sym (with_next accepted xs i x c.loop-x-test.true c.x-item.is)) (record {
            limit = c.admit.ensures.capacity ∙ a.limit;
            stands = c.admit.ensures.stands _ a.stands;
            count = omega (arith, c.admit.ensures.count, a.count);
            lawful = (sym (judges a x c.verdict.ensures.exact_at) ∙ none, a.lawful);
          });
      within = omega (arith, has_place c.loop-x.admission x (sym c.verdict.ensures.kept ∙ none), c.admit.ensures.count, c.admit.ensures.capacity);
      count = search rules;
      capacity = c.admit.ensures.capacity ∙ c.loop-x.invariant.capacity;
    }

pub returns-then-is_some-clause-refuses : goal.returns-then-is_some-clause-refuses
returns-then-is_some-clause-refuses c = λ capacity base accepted first refused.
    let xs = c.args.records.now in
    let i = c.loop-x.x-index in
    let x = c.x-item.result in
    let a = c.loop-x.invariant.admits capacity base accepted first in
    let some : c.verdict.result ≢ None = search rules in
    record {
      good = take i xs;
      bad = x;
      later = drop (i + 1) xs;
      parts = ap (λ (l : List Record). take i xs ++ l) (sym (drop_one xs i x c.loop-x-test.true c.x-item.is)) ∙ take-append-drop i xs;
      lawful = a.lawful;
      refused = λ none. some (judges a x c.verdict.ensures.exact_at ∙ none);
    }

pub returns-clause-admits : goal.returns-clause-admits
returns-clause-admits c = λ capacity base accepted first yes.
    subst (λ (b : List Record). Admits capacity base (with_batch accepted b) c.loop-x.admission) (take_all c.loop-x.x-index c.args.records.now c.loop-x-test.false) (c.loop-x.invariant.admits capacity base accepted first)
