-- What a reader has given so far of the lines of a cross.
use Rattle.std.specs.Prelude.{◌≡◌, ◌⊎◌, ℕ, ⊤, ◌+◌, ◌<◌, true, false, List, [], ◌∷◌, length, Option, Some, None}
use Rattle.std.specs.Io.BufRead.{first_piece, drop_through}
use Rattle.host_core.specs.declared.status.Status.{Status}
use Rattle.host_core.specs.declared.status.Status.TheVariants.{ReadFault, NoMemory, BadText}
use Rattle.cross_chart.specs.declared.line.CrossLine.{CrossLine}
use Rattle.cross_chart.specs.declared.sketch.Sketch.{Sketch}
use Rattle.cross_chart.specs.Lines.{Says}
use Rattle.cross_chart.specs.Sketches.{is_last, with_line, sketch_of}

-- the first lines of a text say this of a cross, and the rest stands behind them
abbrev pub Tells : List ℕ → List CrossLine → List ℕ → Type 0
Tells text [] rest = rest ≡ text
Tells text (x ∷ xs) rest = (0 < length text) × Says (first_piece 10 text) x × Tells (drop_through 10 text) xs rest

-- so many lines of a text were read, and this is what they tell
pub record HasRead (text : List ℕ) (left : Option (List ℕ)) (count : ℕ) (sketch : Sketch) : Type 0 where
  pub lines : List CrossLine
  pub rest : List ℕ
  pub known : left ≡ Some rest
  pub told : Tells text lines rest
  pub counted : length lines ≡ count
  pub exact : sketch_of lines ≡ Some sketch

-- a text is all lines of a cross, and this is what they tell
pub record IsRead (text : List ℕ) (sketch : Sketch) : Type 0 where
  pub lines : List CrossLine
  pub told : Tells text lines []
  pub exact : sketch_of lines ≡ Some sketch
  pub whole : is_last sketch.stage ≡ true

-- a text ends too early, or goes on with a line that says nothing that may stand there
abbrev pub Breaks : Sketch → List ℕ → Type 0
Breaks sketch rest =
    ((rest ≡ []) × (is_last sketch.stage ≡ false))
    ⊎ ((0 < length rest) × ((x : CrossLine) → Says (first_piece 10 rest) x → with_line sketch x ≡ None))

-- the lines before that one, which is counted from 1 on, are those of a cross, and there it breaks
pub record IsBadAt (number : ℕ) (text : List ℕ) : Type 0 where
  pub lines : List CrossLine
  pub rest : List ℕ
  pub sketch : Sketch
  pub told : Tells text lines rest
  pub exact : sketch_of lines ≡ Some sketch
  pub counted : length lines + 1 ≡ number
  pub breaks : Breaks sketch rest

-- why reading a text stops
abbrev pub Stops : Status → List ℕ → Type 0
Stops (BadText line) text = IsBadAt line text
Stops ReadFault text = ⊤
Stops NoMemory text = ⊤
Stops _ text = ⊥

-- what hinders a reader
abbrev pub Hinders : Status → Type 0
Hinders (BadText line) = ⊤
Hinders ReadFault = ⊤
Hinders NoMemory = ⊤
Hinders _ = ⊥
