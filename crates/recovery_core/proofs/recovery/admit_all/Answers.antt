use Rattle.std.proofs.Common.{◌≡◌, ◌≢◌, ◌+◌, List, ◌++◌, None, take, drop, refl, sym, ap, subst, ◌∙◌, arith, rules}
use Rattle.std.proofs.lemmas.List.{take_all, take-append-drop}
use Rattle.wire_in.specs.declared.record.Record.{Record}
use Rattle.journal_core.specs.Layout.{with_batch}
use Rattle.engine_core.specs.declared.engine.Engine.{Engine}
use Rattle.engine_core.proofs.Answering.{drop_one}
use Rattle.recovery_core.specs.Recoveries.{Admits}
use Rattle.recovery_core.proofs.Recovering.{judges, with_next}
use Rattle.recovery_core.proofs.Room.{has_room}
use Rattle.recovery_core.proofs.recovery.admit_all.Goals as goal

pub loop-x-init : goal.loop-x-init
loop-x-init c = record {
  admits = λ capacity base accepted evaluated first. first;
  rest = refl;
  small = c.requires.small;
  count = omega arith;
  capacity = refl;
}

pub loop-x-preserved : goal.loop-x-preserved
loop-x-preserved c =
    let xs = c.args.records.now in
    let i = c.loop-x.x-index in
    let x = c.x-item.result in
    let none : c.verdict.result ≡ None = search rules in
    record {
      admits = λ capacity base accepted evaluated first.
          let a = c.loop-x.invariant.admits capacity base accepted evaluated first in
          subst (λ (all : List Record). Admits capacity base all evaluated c.admit.new.self) (sym (with_next accepted xs i x c.loop-x-test.true c.x-item.is)) (record {
            stands = λ past is. c.admit.ensures.stands capacity _ _ (a.stands past is);
            count = omega (arith, c.admit.ensures.count, a.count);
            evaluated_is = ap (λ (e : _). e.evaluated) c.admit.ensures.rest ∙ a.evaluated_is;
            published = ap (λ (e : _). e.published) c.admit.ensures.rest ∙ a.published;
            lawful = (sym (judges a x c.verdict.ensures.exact_at) ∙ none, a.lawful);
          });
      rest = search rules;
      small =
          let before = c.loop-x.invariant.small in
          let room = has_room c.loop-x.engine.admission x (sym c.verdict.ensures.kept ∙ none) in
          let evaluated : c.admit.new.self.evaluated ≡ c.loop-x.engine.evaluated = ap (λ (e : Engine). e.evaluated) c.admit.ensures.rest in
          let published : c.admit.new.self.published ≡ c.loop-x.engine.published = ap (λ (e : Engine). e.published) c.admit.ensures.rest in
          record {
            range = omega (arith, before.range, c.admit.ensures.capacity);
            within = omega (arith, room, c.admit.ensures.count, c.admit.ensures.capacity);
            evaluated = omega (arith, before.evaluated, evaluated, c.admit.ensures.count);
            few = omega (arith, before.few, evaluated, published);
          };
      count = search rules;
      capacity = c.admit.ensures.capacity ∙ c.loop-x.invariant.capacity;
    }

pub returns-then-is_some-clause-refuses : goal.returns-then-is_some-clause-refuses
returns-then-is_some-clause-refuses c = λ capacity base accepted evaluated first refused.
    let xs = c.args.records.now in
    let i = c.loop-x.x-index in
    let x = c.x-item.result in
    let a = c.loop-x.invariant.admits capacity base accepted evaluated first in
    let some : c.verdict.result ≢ None = search rules in
    record {
      good = take i xs;
      bad = x;
      later = drop (i + 1) xs;
      parts = ap (λ (l : List Record). take i xs ++ l) (sym (drop_one xs i x c.loop-x-test.true c.x-item.is)) ∙ take-append-drop i xs;
      lawful = a.lawful;
      refused = λ none. some (judges a x c.verdict.ensures.exact_at ∙ none);
    }

pub returns-clause-admits : goal.returns-clause-admits
returns-clause-admits c = λ capacity base accepted evaluated first yes.
    subst (λ (b : List Record). Admits capacity base (with_batch accepted b) evaluated c.loop-x.engine) (take_all c.loop-x.x-index c.args.records.now c.loop-x-test.false) (c.loop-x.invariant.admits capacity base accepted evaluated first)
