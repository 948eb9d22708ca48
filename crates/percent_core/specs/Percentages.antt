-- The percentages of the price bands (after the LULD Plan, Appendix A). Prices are ten-thousandths of a dollar.
use Rattle.std.specs.Prelude.{ℕ, Bool, true, false, Option, Some, None, ◌*◌, nat_lt, nat_le, if◌then◌else◌}
use Rattle.price_core.specs.declared.quote.Tier.{Tier}
use Rattle.price_core.specs.declared.quote.Tier.TheVariants as tiers
use Rattle.price_core.specs.declared.quote.Category.{Category}
use Rattle.price_core.specs.declared.quote.Category.TheVariants as categories
use Rattle.session_core.specs.declared.day.Day.{Day}
use Rattle.session_core.specs.declared.day.Profile.{Profile}
use Rattle.session_core.specs.declared.day.Profile.TheVariants.{Since18, Before18}
use Rattle.session_core.specs.declared.state.Span.{Span}
use Rattle.session_core.specs.declared.state.Span.TheVariants as spans
use Rattle.session_core.specs.Times.{in_last_25_minutes, in_first_15_minutes}

-- by the prior close: above $3.00, from $0.75 to $3.00, below $0.75
abbrev pub category : Option ℕ → Category
category None = categories.Above
category (Some close) = if nat_lt 30000 close then categories.Above else if nat_le 7500 close then categories.Middle else categories.Below

-- the last 25 minutes, the first 15, or between
abbrev pub span : ℕ → Day → Span
span t day = if in_last_25_minutes t day then spans.Last25 else if in_first_15_minutes t then spans.First15 else spans.Middle

-- before it is doubled
abbrev pub base_percent : Tier → Category → ℕ
base_percent t categories.Below = 75
base_percent t categories.Middle = 20
base_percent tiers.One categories.Above = 5
base_percent tiers.Two categories.Above = 10

-- since Amendment 18 in the last 25 minutes, but not for Tier 2 above $3.00; before it in the first 15 and the last 25 minutes
abbrev pub is_doubled : Profile → Tier → Category → Span → Bool
is_doubled Since18 tiers.Two categories.Above spans.Last25 = false
is_doubled Since18 t c spans.Last25 = true
is_doubled Since18 t c s = false
is_doubled Before18 t c spans.Middle = false
is_doubled Before18 t c s = true

-- the percentage before the leverage ratio
abbrev pub percent : Profile → Tier → Category → Span → ℕ
percent p t c s = if is_doubled p t c s then 2 * base_percent t c else base_percent t c

-- the least percentage of a category: 75 below $0.75, and 5 else
abbrev pub least_percent : Category → ℕ
least_percent categories.Below = 75
least_percent c = 5
