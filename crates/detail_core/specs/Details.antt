-- What is told of a text of details.
use Rattle.std.specs.Prelude.{◌≡◌, ℕ, List, [], ◌∷◌, ◌++◌, map}
use Rattle.std.specs.List.{concat}
use Rattle.text_core.specs.Streams.{lines_from, last_from}
use Rattle.text_core.specs.InternalStreams.{IsOneLine}

-- a line of detail: two blanks before it, and a newline behind it
abbrev pub told_line : List ℕ → List ℕ
told_line line = 32 ∷ 32 ∷ line ++ 10 ∷ []

-- what is told of a line of a text: nothing of an empty one
abbrev pub detail_of : List ℕ → List ℕ
detail_of [] = []
detail_of (byte ∷ line) = told_line (byte ∷ line)

-- all that is told of a text: each of its lines, and what stands behind its last newline
unfoldable pub details_of : List ℕ → List ℕ
details_of text = concat (map detail_of (lines_from [] text)) ++ detail_of (last_from [] text)

-- none of these lines has a newline
abbrev pub AreLines : List (List ℕ) → Type 0
AreLines [] = Unit {0}
AreLines (line ∷ lines) = IsOneLine line × AreLines lines

-- lines, each of which begins with two blanks and ends with a newline
pub record AreDetails (told : List ℕ) : Type 0 where
  pub lines : List (List ℕ)
  pub each : AreLines lines
  pub are : told ≡ concat (map told_line lines)
