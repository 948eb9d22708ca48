-- The names of commands and kinds, and the ranges of a command's numbers.
use Rattle.std.specs.Prelude.{ℕ, ◌≤◌, List, [], ◌∷◌, Option, Some, None, IfSome, if◌then◌else◌, codes, find}
use Rattle.std.specs.Str.{bytes_eq}
use Rattle.text_core.specs.declared.kind.Kind.{Kind}
use Rattle.text_core.specs.declared.kind.Kind.TheVariants.{Records, Published}
use Rattle.words_core.specs.declared.command.Command.{Command}
use Rattle.words_core.specs.declared.command.Command.TheVariants as commands
use Rattle.words_core.specs.declared.command.Verb.{Verb}
use Rattle.words_core.specs.declared.command.Verb.TheVariants.{Format, Serve, Replay, Status, Print, Pack, Generate, Roll, Board, Cross, Audit, Ship, Standby}

-- all commands, in the order in which the command line has them
abbrev pub verbs : List Verb
verbs = Format ∷ Serve ∷ Replay ∷ Status ∷ Print ∷ Pack ∷ Generate ∷ Roll ∷ Board ∷ Cross ∷ Audit ∷ Ship ∷ Standby ∷ []

-- the name of a command
abbrev pub word_of : Verb → List ℕ
word_of Format = codes "format"
word_of Serve = codes "serve"
word_of Replay = codes "replay"
word_of Status = codes "status"
word_of Print = codes "print"
word_of Pack = codes "pack"
word_of Generate = codes "generate"
word_of Roll = codes "roll"
word_of Board = codes "board"
word_of Cross = codes "cross"
word_of Audit = codes "audit"
word_of Ship = codes "ship"
word_of Standby = codes "standby"

-- the command of a name
abbrev pub verb_of : List ℕ → Option Verb
verb_of word = find (λ verb. bytes_eq word (word_of verb)) verbs

-- the kind of a name
abbrev pub kind_of : List ℕ → Option Kind
kind_of word =
    if bytes_eq word (codes "records") then Some Records
    else if bytes_eq word (codes "published") then Some Published
    else None

-- the numbers of a command are in their ranges
abbrev pub IsInRange : Command → Type 0
IsInRange (commands.Format limit) = (1 ≤ limit) × (limit ≤ 2000000000)
IsInRange (commands.Serve from workers batch bytes) = IfSome from (λ n. 1 ≤ n) × (1 ≤ workers) × (workers ≤ 64) × (1 ≤ batch) × (batch ≤ 64) × (1 ≤ bytes) × (bytes ≤ 1099511627776)
IsInRange (commands.Replay workers bytes) = (1 ≤ workers) × (workers ≤ 64) × (1 ≤ bytes) × (bytes ≤ 1099511627776)
IsInRange commands.Status = Unit {0}
IsInRange (commands.Print kind) = Unit {0}
IsInRange (commands.Pack kind) = Unit {0}
IsInRange commands.Roll = Unit {0}
IsInRange (commands.Board bytes) = (1 ≤ bytes) × (bytes ≤ 1073741824)
IsInRange commands.Cross = Unit {0}
IsInRange commands.Audit = Unit {0}
IsInRange (commands.Ship from) = 1 ≤ from
IsInRange (commands.Standby batch bytes) = (1 ≤ batch) × (batch ≤ 64) × (1 ≤ bytes) × (bytes ≤ 1099511627776)
IsInRange (commands.Generate seed symbols records workers summary) =
    (1 ≤ symbols) × (symbols ≤ 16384) × (records ≤ 100000000) × (1 ≤ workers) × (workers ≤ 64)
