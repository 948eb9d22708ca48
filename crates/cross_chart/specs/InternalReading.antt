-- What a line is taken for: what it says, if it says anything of a cross, and else anything. Private words: no public clause cites
-- them.
use Rattle.std.specs.Prelude.{ℕ, List, if◌then◌else◌, codes, bytes_eq, Option, Some, None}
use Rattle.text_core.specs.Reading.{word_at, number_in, number16_in, moment_in, price_in, unmatched_in}
use Rattle.wire_core.specs.OptionSteps.{◌>>=◌}
use Rattle.cross_chart.specs.declared.line.CrossLine.{CrossLine}
use Rattle.cross_chart.specs.declared.line.CrossLine.TheVariants.{Indication, Volume, Imbalance, Compared, Fill}

unfoldable pub indication_of : List ℕ → Option CrossLine
indication_of line = do
  m ← moment_in (word_at 1 line)
  s ← number16_in (word_at 2 line)
  p ← price_in (word_at 3 line)
  u ← unmatched_in (word_at 4 line)
  Some (Indication m s p u)

unfoldable pub row_of : List ℕ → Option CrossLine
row_of line = do
  p ← price_in (word_at 1 line)
  Some (Compared (record { price = p; buy = number_in (word_at 2 line); sell = number_in (word_at 3 line) }))

-- by the first word
unfoldable pub taken_for : List ℕ → Option CrossLine
taken_for line =
    if bytes_eq (word_at 0 line) (codes "indication") then indication_of line
    else if bytes_eq (word_at 0 line) (codes "volume") then Some (Volume (number_in (word_at 1 line)))
    else if bytes_eq (word_at 0 line) (codes "imbalance") then Some (Imbalance (number_in (word_at 1 line)))
    else if bytes_eq (word_at 0 line) (codes "row") then row_of line
    else if bytes_eq (word_at 0 line) (codes "fill") then Some (Fill (number_in (word_at 1 line)))
    else None
