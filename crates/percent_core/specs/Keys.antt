-- The keys of the table of percentages: a bit for the tier, two for the category, two for the part of the session and one
-- for the profile.
-- Private words: no public clause cites them.
use Rattle.std.specs.Prelude.{ℕ, ◌+◌, ◌*◌}
use Rattle.price_core.specs.declared.quote.Tier.{Tier}
use Rattle.price_core.specs.declared.quote.Tier.TheVariants as tier
use Rattle.price_core.specs.declared.quote.Category.{Category}
use Rattle.price_core.specs.declared.quote.Category.TheVariants as category
use Rattle.session_core.specs.declared.day.Profile.{Profile}
use Rattle.session_core.specs.declared.day.Profile.TheVariants.{Since18, Before18}
use Rattle.session_core.specs.declared.state.Span.{Span}
use Rattle.session_core.specs.declared.state.Span.TheVariants as span

-- the bit of the tier
abbrev pub tier_code : Tier → ℕ
tier_code tier.One = 0
tier_code tier.Two = 1

-- the bits of the category
abbrev pub category_code : Category → ℕ
category_code category.Above = 0
category_code category.Middle = 1
category_code category.Below = 2

-- the bits of the part of the session
abbrev pub span_code : Span → ℕ
span_code span.Middle = 0
span_code span.First15 = 1
span_code span.Last25 = 2

-- the bit of the profile
abbrev pub profile_code : Profile → ℕ
profile_code Since18 = 0
profile_code Before18 = 1

-- the key of a tier, a category, a part of the session and a profile
abbrev pub key_of : Tier → Category → Span → Profile → ℕ
key_of t c s p = tier_code t + 2 * category_code c + 8 * span_code s + 32 * profile_code p
