use Rattle.std.proofs.Common.{◌≡◌, ℕ, ◌-◌, ◌++◌, false, true, List, drop, length, map, take, sym, ap, ◌∙◌, arith, rules}
use Rattle.std.proofs.lemmas.Bool.Decides.{nat_tests}
use Rattle.std.proofs.lemmas.List.{append-nil, take_rest}
use Rattle.std.specs.Prelude.{nat_lt}
use Rattle.merge_core.specs.declared.tagged.Tagged.{Tagged}
use Rattle.wire_out.specs.declared.message.Stamped.{Stamped}
use Rattle.evaluator_core.specs.AheadState.{AheadState}
use Rattle.evaluator_core.specs.Leading.{leading}
use Rattle.evaluator_core.proofs.HandedOut.{goes_on, next_ahead, nothing_first, says, without_first}
use Rattle.evaluator_core.proofs.ahead.Ahead.apply.Goals.{then-is_of+in_ok-hand_out, else-is_of}
use Rattle.evaluator_core.proofs.ahead.Ahead.apply.Goals as goal

none_leads : (n : ℕ) → false ≡ nat_lt 0 n → n ≡ 0
none_leads n other = grind (arith, nat_tests)

-- the messages that are left begin with none of the oldest record
none : (c : goal.After-self-1) → false ≡ nat_lt 0 (leading c.self.inside.index (take (length c.deref.result.now - c.self.inside.at) (drop c.self.inside.at c.deref.result.now)))
    → leading c.args.self.now.index c.args.self.now.left ≡ 0
none c other =
    let left : take (length c.deref.result.now - c.self.inside.at) (drop c.self.inside.at c.deref.result.now) ≡ drop c.self.inside.at c.self.inside.given.items
    = take_rest c.deref.result.now c.self.inside.at ∙ ap (drop c.self.inside.at) c.deref.ensures.value in
    ap (λ (b : AheadState). leading b.index b.left) (sym c.self.view_is) ∙ ap (leading c.self.inside.index) (sym left) ∙ none_leads _ other

-- they are gone, whether there were some or none
moved : (c : goal.After-self-1) → c.if-is_of.self ≡ without_first c.args.self.now
moved c = elim c.if-is_of.branch [
  | then-is_of+in_ok-hand_out w ↦ w.self-is ∙ w.in_ok-hand_out.ensures.left
  | else-is_of w ↦ w.self-is ∙ nothing_first c.args.self.now (none c w.if-is_of.ensures)
]

pub returns-clause-given : goal.returns-clause-given
returns-clause-given c = λ x applied later block ahead.
    let works : c.args.self.now.shards.working ≡ true = search rules in
    let said = says c.args.self.now x applied later (ahead works) (block works) in
    elim c.if-is_of.branch [
      | then-is_of+in_ok-hand_out w ↦ ap (λ v. v.items) w.out-is ∙ w.in_ok-hand_out.ensures.said ∙ ap (λ (ms : List Stamped). c.args.out.now.items ++ ms) said
      | else-is_of w ↦
          let nothing = ap (λ (n : ℕ). map (λ (message : Tagged). message.stamped) (take n c.args.self.now.left)) (sym (none c w.if-is_of.ensures)) ∙ said in
          ap (λ v. v.items) w.out-is ∙ sym (append-nil c.args.out.now.items) ∙ ap (λ (ms : List Stamped). c.args.out.now.items ++ ms) nothing
    ]

pub returns-clause-stands : goal.returns-clause-stands
returns-clause-stands c = λ x applied later block ahead works.
    let s = c.self-2.inside in
    let worked : c.args.self.now.shards.working ≡ true = search rules in
    goes_on s.shards s.index s.records.value.items (drop s.at s.given.items) c.args.self.now x applied later c.self-2.invariant.2 (c.self-2.view_is ∙ moved c) (ahead worked) (block worked)

pub returns-clause-ahead : goal.returns-clause-ahead
returns-clause-ahead c = λ x later ahead works.
    let s = c.self-2.inside in
    let worked : c.args.self.now.shards.working ≡ true = search rules in
    next_ahead s.index s.records.value.items x later c.self-2.invariant.2 (ap (λ (b : AheadState). b.ahead) (c.self-2.view_is ∙ moved c) ∙ ahead worked)
