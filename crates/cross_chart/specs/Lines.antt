-- The lines of a cross, without their newlines.
use Rattle.std.specs.Prelude.{◌≡◌, ℕ, ◌<◌, ◌^◌, List, [], ◌∷◌, codes, decimal}
use Rattle.price_core.specs.Ranges.{IsPrice}
use Rattle.session_core.specs.Moments.{IsMoment}
use Rattle.text_core.specs.Lines.{line_of}
use Rattle.text_core.specs.Words.{time_word, price_word, unmatched_word}
use Rattle.cross_chart.specs.declared.line.CrossLine.{CrossLine}
use Rattle.cross_chart.specs.declared.line.CrossLine.TheVariants.{Indication, Volume, Imbalance, Compared, Fill}

-- the words of each line
abbrev pub words_of : CrossLine → List (List ℕ)
words_of (Indication m s p u) = codes "indication" ∷ time_word m ∷ decimal s ∷ price_word p ∷ unmatched_word u ∷ []
words_of (Volume n) = codes "volume" ∷ decimal n ∷ []
words_of (Imbalance n) = codes "imbalance" ∷ decimal n ∷ []
words_of (Compared row) = codes "row" ∷ price_word row.price ∷ decimal row.buy ∷ decimal row.sell ∷ []
words_of (Fill n) = codes "fill" ∷ decimal n ∷ []

-- with one blank between them
abbrev pub line_text : CrossLine → List ℕ
line_text x = line_of (words_of x)

-- the ranges of what a line tells
abbrev pub HasTypes : CrossLine → Type 0
HasTypes (Indication m s p u) = IsMoment m × (s < 2 ^ 16) × IsPrice p
HasTypes (Volume n) = n < 2 ^ 64
HasTypes (Imbalance n) = n < 2 ^ 64
HasTypes (Compared row) = IsPrice row.price × (row.buy < 2 ^ 64) × (row.sell < 2 ^ 64)
HasTypes (Fill n) = n < 2 ^ 64

-- a line says this of a cross
pub record Says (line : List ℕ) (x : CrossLine) : Type 0 where
  pub types : HasTypes x
  pub text : line ≡ line_text x
