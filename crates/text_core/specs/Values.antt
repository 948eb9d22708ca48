-- The words of single values.
use Rattle.std.specs.Prelude.{◌≡◌, ℕ, List}
use Rattle.price_core.specs.Ranges.{IsPrice}
use Rattle.session_core.specs.Moments.{IsMoment}
use Rattle.text_core.specs.Words.{price_word, time_word}

-- a word prints a price
pub record PrintsPrice (word : List ℕ) (units : ℕ) : Type 0 where
  pub range : IsPrice units
  pub text : word ≡ price_word units

-- a word prints a moment
pub record PrintsTime (word : List ℕ) (nanos : ℕ) : Type 0 where
  pub range : IsMoment nanos
  pub text : word ≡ time_word nanos
