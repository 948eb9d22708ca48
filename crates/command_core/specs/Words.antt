-- The words of a process.
use Rattle.std.specs.Prelude.{ℕ, Bool, ◌||◌, if◌then◌else◌, List, [], get_or, drop, codes}
use Rattle.std.specs.Str.{bytes_eq}

-- a word that asks for help or for the version
abbrev pub asks_for_text : List ℕ → Bool
asks_for_text word =
    bytes_eq word (codes "help") || (bytes_eq word (codes "--help") || (bytes_eq word (codes "-h") || (bytes_eq word (codes "--version") || bytes_eq word (codes "-V"))))

-- The words of a command: the program's own name and the journal's path stand before them. Before words that ask for help or
-- for the version no path is needed.
abbrev pub command_words : List (List ℕ) → List (List ℕ)
command_words args = if asks_for_text (get_or args 1 []) then drop 1 args else drop 2 args
