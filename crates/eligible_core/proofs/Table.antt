-- The table of the condition bits gives what the definition says of each bit.
use Rattle.std.proofs.Common.{◌≡◌, ◌<◌, ℕ, Bool, true, false, Option, Some, None, ◌==◌, refl, subst, ap, ◌∙◌}
use Rattle.std.proofs.lemmas.Bool.{agree_below, agree_below_at, eqb-true}
use Rattle.case_table.specs.Rows.{answer_of}
use Rattle.eligible_core.specs.declared.condition.TheConstants.{ROWS}
use Rattle.eligible_core.specs.declared.condition.Condition.{Condition}
use Rattle.eligible_core.specs.declared.condition.Condition.TheVariants.{BarsNothing, Bars, NotAssigned}
use Rattle.eligible_core.specs.Conditions.{condition_of, condition_at}

abbrev code_of : Condition → ℕ
code_of BarsNothing = 0
code_of Bars = 1
code_of NotAssigned = 2

condition_at-code : (c : Condition) → condition_at (code_of c) ≡ c
condition_at-code BarsNothing = refl
condition_at-code Bars = refl
condition_at-code NotAssigned = refl

abbrev is_some_of : ℕ → Option ℕ → Bool
is_some_of code None = false
is_some_of code (Some answer) = answer == code

abbrev is_answered : ℕ → Bool
is_answered bit = is_some_of (code_of (condition_of bit)) (answer_of bit ROWS)

-- each bit's answer is the code of what it says
is_answered-below : agree_below is_answered (λ _. true) 16 ≡ true
is_answered-below = refl

pub condition_at-answer : (bit answer : ℕ) → bit < 16 → answer_of bit ROWS ≡ Some answer → condition_at answer ≡ condition_of bit
condition_at-answer bit answer below is =
    let code = code_of (condition_of bit) in
    let same : is_some_of code (answer_of bit ROWS) ≡ true = agree_below_at is_answered (λ _. true) 16 bit is_answered-below below in
    ap condition_at (eqb-true answer code (subst (λ o. is_some_of code o ≡ true) is same)) ∙ condition_at-code (condition_of bit)
