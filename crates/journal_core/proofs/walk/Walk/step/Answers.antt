use Rattle.std.proofs.Common.{◌≡◌, ◌+◌, ℕ, Ok, sym, ap, subst, ◌∙◌, arith, rules}
use Rattle.journal_core.specs.Walk.{IsBrokenAt}
use Rattle.journal_core.specs.Walking.{HasWalked, IsWalking}
use Rattle.journal_core.specs.declared.walk.Walk.{Walk}
use Rattle.journal_core.proofs.Walking.{keeps_walking, too_far, went_on}
use Rattle.journal_core.proofs.walk.Walk.step.Goals as goal

pub returns-then-self-next-clause-damaged : goal.returns-then-self-next-clause-damaged
returns-then-self-next-clause-damaged c at is disk h =
    let walk = c.args.self.now in
    let mark = c.in-Some.mark in
    let was = ap Ok c.in-Some.is in
    let found = c.in_ok-mark.ensures.found mark was disk h in
    let there : at ≡ walk.gate + 5 + c.from.result = search rules in
    subst (λ (place : ℕ). IsBrokenAt walk.capacity place disk) (sym (there ∙ ap (λ (n : ℕ). walk.gate + 5 + n) c.from.ensures))
    (too_far walk disk h mark found.0 found.1 (c.in_ok-mark.ensures.form mark was).1 (omega (arith, c.if-self-next.true, c.from.ensures)))

pub returns-clause-walking : goal.returns-clause-walking
returns-clause-walking c =
    let mark = c.in-Some.mark in
    let form = c.in_ok-mark.ensures.form mark (ap Ok c.in-Some.is) in
    subst IsWalking (sym c.pass.ensures) (keeps_walking c.args.self.now mark c.requires.walking form.0 (omega (arith, c.if-self-next.false, c.from.ensures)))

pub returns-clause-walked : goal.returns-clause-walked
returns-clause-walked c disk h =
    let walk = c.args.self.now in
    let mark = c.in-Some.mark in
    let was = ap Ok c.in-Some.is in
    let found = c.in_ok-mark.ensures.found mark was disk h in
    subst (λ (w : Walk). HasWalked w disk) (sym c.pass.ensures) (went_on walk disk h mark found.0 found.1 (c.in_ok-mark.ensures.form mark was).1)
