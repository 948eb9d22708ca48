-- The table of percentages gives the percentage of each tier, category, part of the session and profile.
use Rattle.std.proofs.Common.{◌≡◌, ◌≤◌, ℕ, ◌*◌, Bool, true, false, if◌then◌else◌, Some, refl, arith}
use Rattle.case_table.specs.Rows.{answer_of}
use Rattle.price_core.specs.declared.quote.Tier.{Tier}
use Rattle.price_core.specs.declared.quote.Tier.TheVariants as tier
use Rattle.price_core.specs.declared.quote.Category.{Category}
use Rattle.price_core.specs.declared.quote.Category.TheVariants as category
use Rattle.session_core.specs.declared.day.Profile.{Profile}
use Rattle.session_core.specs.declared.day.Profile.TheVariants.{Since18, Before18}
use Rattle.session_core.specs.declared.state.Span.{Span}
use Rattle.session_core.specs.declared.state.Span.TheVariants as span
use Rattle.percent_core.specs.declared.parameter.TheConstants.{ROWS}
use Rattle.percent_core.specs.Keys.{key_of}
use Rattle.percent_core.specs.Percentages.{base_percent, is_doubled, least_percent, percent}

answer_of-key : (t : Tier) (c : Category) (s : Span) (p : Profile) → answer_of (key_of t c s p) ROWS ≡ Some (percent p t c s)
answer_of-key tier.One category.Above span.Middle Since18 = refl
answer_of-key tier.One category.Above span.First15 Since18 = refl
answer_of-key tier.One category.Above span.Last25 Since18 = refl
answer_of-key tier.One category.Middle span.Middle Since18 = refl
answer_of-key tier.One category.Middle span.First15 Since18 = refl
answer_of-key tier.One category.Middle span.Last25 Since18 = refl
answer_of-key tier.One category.Below span.Middle Since18 = refl
answer_of-key tier.One category.Below span.First15 Since18 = refl
answer_of-key tier.One category.Below span.Last25 Since18 = refl
answer_of-key tier.Two category.Above span.Middle Since18 = refl
answer_of-key tier.Two category.Above span.First15 Since18 = refl
answer_of-key tier.Two category.Above span.Last25 Since18 = refl
answer_of-key tier.Two category.Middle span.Middle Since18 = refl
answer_of-key tier.Two category.Middle span.First15 Since18 = refl
answer_of-key tier.Two category.Middle span.Last25 Since18 = refl
answer_of-key tier.Two category.Below span.Middle Since18 = refl
answer_of-key tier.Two category.Below span.First15 Since18 = refl
answer_of-key tier.Two category.Below span.Last25 Since18 = refl
answer_of-key tier.One category.Above span.Middle Before18 = refl
answer_of-key tier.One category.Above span.First15 Before18 = refl
answer_of-key tier.One category.Above span.Last25 Before18 = refl
answer_of-key tier.One category.Middle span.Middle Before18 = refl
answer_of-key tier.One category.Middle span.First15 Before18 = refl
answer_of-key tier.One category.Middle span.Last25 Before18 = refl
answer_of-key tier.One category.Below span.Middle Before18 = refl
answer_of-key tier.One category.Below span.First15 Before18 = refl
answer_of-key tier.One category.Below span.Last25 Before18 = refl
answer_of-key tier.Two category.Above span.Middle Before18 = refl
answer_of-key tier.Two category.Above span.First15 Before18 = refl
answer_of-key tier.Two category.Above span.Last25 Before18 = refl
answer_of-key tier.Two category.Middle span.Middle Before18 = refl
answer_of-key tier.Two category.Middle span.First15 Before18 = refl
answer_of-key tier.Two category.Middle span.Last25 Before18 = refl
answer_of-key tier.Two category.Below span.Middle Before18 = refl
answer_of-key tier.Two category.Below span.First15 Before18 = refl
answer_of-key tier.Two category.Below span.Last25 Before18 = refl

least_percent-base : (t : Tier) (c : Category) → least_percent c ≤ base_percent t c
least_percent-base tier.One category.Above = omega arith
least_percent-base tier.One category.Middle = omega arith
least_percent-base tier.One category.Below = omega arith
least_percent-base tier.Two category.Above = omega arith
least_percent-base tier.Two category.Middle = omega arith
least_percent-base tier.Two category.Below = omega arith

-- doubling takes nothing away
le-doubled : (doubled : Bool) (least n : ℕ) → least ≤ n → least ≤ (if doubled then 2 * n else n)
le-doubled true least n le = omega arith
le-doubled false least n le = le

pub percent-answer : (t : Tier) (c : Category) (s : Span) (p : Profile) (n : ℕ) → answer_of (key_of t c s p) ROWS ≡ Some n → n ≡ percent p t c s
percent-answer t c s p n is = let e = answer_of-key t c s p in cc

pub least_percent-answer : (t : Tier) (c : Category) (s : Span) (p : Profile) (n : ℕ) → answer_of (key_of t c s p) ROWS ≡ Some n → least_percent c ≤ n
least_percent-answer t c s p n is =
    rw (percent-answer t c s p n is) (le-doubled (is_doubled p t c s) _ _ (least_percent-base t c))

base_percent-most : (t : Tier) (c : Category) → base_percent t c ≤ 75
base_percent-most tier.One category.Above = omega arith
base_percent-most tier.One category.Middle = omega arith
base_percent-most tier.One category.Below = omega arith
base_percent-most tier.Two category.Above = omega arith
base_percent-most tier.Two category.Middle = omega arith
base_percent-most tier.Two category.Below = omega arith

doubled-le : (doubled : Bool) (n most : ℕ) → n ≤ most → (if doubled then 2 * n else n) ≤ 2 * most
doubled-le true n most le = omega arith
doubled-le false n most le = omega arith

pub percent-most : (t : Tier) (c : Category) (s : Span) (p : Profile) (n : ℕ) → answer_of (key_of t c s p) ROWS ≡ Some n → n ≤ 150
percent-most t c s p n is =
    rw (percent-answer t c s p n is) (doubled-le (is_doubled p t c s) (base_percent t c) 75 (base_percent-most t c))
