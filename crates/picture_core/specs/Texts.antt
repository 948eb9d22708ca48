-- A text of lines, and the published frames that they print.
use Rattle.std.specs.Prelude.{◌≡◌, ℕ, ◌+◌, ◌<◌, List, [], ◌∷◌, length}
use Rattle.std.specs.Io.BufRead.{first_piece, drop_through}
use Rattle.wire_out.specs.declared.message.Frame.{Frame}
use Rattle.text_core.specs.Lines.{PrintsFrame}

-- the first lines of a text print these frames, one each, and the rest stands behind them
abbrev pub Prints : List ℕ → List Frame → List ℕ → Type 0
Prints text [] rest = rest ≡ text
Prints text (frame ∷ frames) rest =
    (0 < length text) × PrintsFrame (first_piece 10 text) frame × Prints (drop_through 10 text) frames rest

-- the lines before that one, which is counted from 1 on, print frames, and it prints none
pub record IsBadAt (number : ℕ) (text : List ℕ) : Type 0 where
  pub frames : List Frame
  pub rest : List ℕ
  pub before : Prints text frames rest
  pub counted : length frames + 1 ≡ number
  pub there : 0 < length rest
  pub none : (frame : Frame) → PrintsFrame (first_piece 10 rest) frame → ⊥
