-- The messages that a list begins with. A private word: no public clause cites it.
use Rattle.std.specs.Prelude.{ℕ, suc, List, [], ◌∷◌, ◌==◌, if◌then◌else◌}
use Rattle.merge_core.specs.declared.tagged.Tagged.{Tagged}

-- how many of the first messages are of the record at an index
abbrev pub leading : ℕ → List Tagged → ℕ
leading index [] = 0
leading index (message ∷ later) = if message.input == index then suc (leading index later) else 0
