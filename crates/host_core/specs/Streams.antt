-- What is written to a stream.
use Rattle.std.specs.Prelude.{ℕ, ◌≤◌, List, [], ◌∷◌, ◌++◌, length, take, Option, Some, None, decimal}
use Rattle.std.specs.Io.KnownBytes.{Appends}
use Rattle.host_core.specs.declared.stream.Stream.{Stream}
use Rattle.host_core.specs.declared.line.StatusLine.{StatusLine}

-- a stream of the standard library, and how many errors it told
abbrev pub stream_of : {T : Type 0} → Stream T → T
stream_of s = s.stream

abbrev pub failures_of : {T : Type 0} → Stream T → ℕ
failures_of s = s.failures

-- a prefix of the text was written behind what was there
pub record AppendsPart (old new : Option (List ℕ)) (text : List ℕ) : Type 0 where
  pub count : ℕ
  pub within : count ≤ length text
  pub part : Appends old new (take count text)

-- the digits of a number, where there is one
abbrev pub digits_of : Option ℕ → List ℕ
digits_of None = []
digits_of (Some number) = decimal number

-- the words before a number, the number where there is one, and the words behind it
abbrev pub with_number : List ℕ → Option ℕ → List ℕ → List ℕ
with_number before number after = before ++ (digits_of number ++ after)

-- a line with its newline; nothing where there is none
abbrev pub with_newline : Option (List ℕ) → List ℕ
with_newline None = []
with_newline (Some line) = line ++ (10 ∷ [])

-- the words of a line
abbrev pub words_of : StatusLine → List ℕ
words_of line = with_number line.before.now line.number line.after.now
