-- What the lines of a cross tell, and in which order they stand.
use Rattle.std.specs.Prelude.{Bool, true, false, List, [], ◌∷◌, ◌++◌, Option, Some, None, option_map}
use Rattle.price_core.specs.declared.quote.Unmatched.TheVariants.{Nothing}
use Rattle.wire_core.specs.OptionSteps.{◌>>=◌}
use Rattle.cross_chart.specs.declared.line.CrossLine.{CrossLine}
use Rattle.cross_chart.specs.declared.line.CrossLine.TheVariants.{Indication, Volume, Imbalance, Compared, Fill}
use Rattle.cross_chart.specs.declared.sketch.Stage.{Stage}
use Rattle.cross_chart.specs.declared.sketch.Stage.TheVariants as stages
use Rattle.cross_chart.specs.declared.sketch.Sketch.{Sketch}

-- first the indication, then the volume and the imbalance, then one row or more, and then fills
abbrev pub stage_after : Stage → CrossLine → Option Stage
stage_after stages.Indication (Indication m s p u) = Some stages.Volume
stage_after stages.Volume (Volume n) = Some stages.Imbalance
stage_after stages.Imbalance (Imbalance n) = Some stages.FirstRow
stage_after stages.FirstRow (Compared row) = Some stages.RowOrFill
stage_after stages.RowOrFill (Compared row) = Some stages.RowOrFill
stage_after stages.RowOrFill (Fill n) = Some stages.Fill
stage_after stages.Fill (Fill n) = Some stages.Fill
stage_after _ _ = None

-- the lines may end behind a row or a fill
abbrev pub is_last : Stage → Bool
is_last stages.RowOrFill = true
is_last stages.Fill = true
is_last _ = false

-- before the first line
abbrev pub begun : Sketch
begun = record {
  stage = stages.Indication;
  moment = 0;
  symbol = 0;
  crossed = record { price = 1; volume = 0; imbalance = 0; left = Nothing; rows = [] };
}

-- a line tells its part of the cross
abbrev pub noted : Sketch → CrossLine → Sketch
noted k (Indication m s p u) = record k { moment = m; symbol = s; crossed = record k.crossed { price = p; left = u } }
noted k (Volume n) = record k { crossed = record k.crossed { volume = n } }
noted k (Imbalance n) = record k { crossed = record k.crossed { imbalance = n } }
noted k (Compared row) = record k { crossed = record k.crossed { rows = k.crossed.rows ++ row ∷ [] } }
noted k (Fill n) = k

-- where it may stand
abbrev pub with_line : Sketch → CrossLine → Option Sketch
with_line k x = option_map (λ stage. noted (record k { stage = stage }) x) (stage_after k.stage x)

-- lines, one after the other
abbrev pub with_lines : Sketch → List CrossLine → Option Sketch
with_lines k [] = Some k
with_lines k (x ∷ xs) = with_line k x >>= λ more. with_lines more xs

-- all that they tell; none where one may not stand where it does
abbrev pub sketch_of : List CrossLine → Option Sketch
sketch_of xs = with_lines begun xs
