-- What words ask for: a plain line for its command, and other words for what `clap` makes of the command line.
use Rattle.std.specs.Prelude.{◌≡◌, ◌≢◌, Bool, true, false, List, [], Option, Some, None, Result, Ok, Err, fold, option_and_then}
use Rattle.clap.specs.Words.{Kinds, IsAmong, Row, Text, fault_of, first_of, subcommand_of}
use Rattle.clap.specs.declared.error.kind.ErrorKind.{ErrorKind}
use Rattle.clap.specs.declared.error.kind.ErrorKind.TheVariants.{DisplayHelp, DisplayVersion, OutOfMemory}
use Rattle.words_core.specs.Commands.{verb_of, IsInRange}
use Rattle.words_core.specs.Settings.{name_of, settings, takes}
use Rattle.words_core.specs.Plain.{command_with, no_options, with_any}
use Rattle.words_core.specs.Line.{CommandLine, app_of_line}
use Rattle.words_core.specs.declared.asked.Asked.{Asked}
use Rattle.words_core.specs.declared.asked.Asked.TheVariants as asked
use Rattle.words_core.specs.declared.asked.WordsError.{WordsError}
use Rattle.words_core.specs.declared.asked.WordsError.TheVariants.{Usage, NoMemory}
use Rattle.words_core.specs.declared.command.Command.{Command}
use Rattle.words_core.specs.declared.command.Verb.{Verb}
use Rattle.words_core.specs.declared.options.Options.{Options}
use Rattle.words_core.specs.declared.setting.Setting.{Setting}

-- the options with one more, where it was found
unfoldable pub with_found : Verb → List Row → Option Options → Setting → Option Options
with_found verb rows given setting = option_and_then (with_any (takes verb setting) setting (first_of (name_of setting) rows)) given

-- the command of a name, with the options that `clap` found
abbrev pub command_from : Verb → List Row → Option Command
command_from verb rows = option_and_then (command_with verb) (fold (with_found verb rows) (Some no_options) settings)

abbrev pub command_found : Option (Text × List Row) → Option Command
command_found found = option_and_then (λ p. option_and_then (λ verb. command_from verb p.1) (verb_of p.0)) found

-- a text is asked for: the help or the version
abbrev pub asks_for_text : ErrorKind → Bool
asks_for_text DisplayHelp = true
asks_for_text DisplayVersion = true
asks_for_text kind = false

-- a kind of error of these asks for a text, or refuses the words
abbrev pub SomeKind : Bool → Kinds → Type 0
SomeKind asks kinds = (kind : ErrorKind) × IsAmong kind kinds × (asks_for_text kind ≡ asks)

-- What may be answered, where the words may have errors of these kinds, and ask for this command where they have none. Memory
-- may be short in any case.
abbrev pub Allows : Kinds → Option Command → Result Asked WordsError → Type 0
Allows kinds command (Ok (asked.Command c)) = (kinds ≡ []) × (command ≡ Some c)
Allows kinds command (Ok (asked.Text text)) = SomeKind true kinds
Allows kinds command (Err Usage) = SomeKind false kinds
Allows kinds command (Err NoMemory) = Unit {0}

-- what a kind of error comes to
abbrev pub Tells : ErrorKind → Result Asked WordsError → Type 0
Tells kind (Ok (asked.Command c)) = ⊥
Tells kind (Ok (asked.Text text)) = asks_for_text kind ≡ true
Tells kind (Err Usage) = (asks_for_text kind ≡ false) × (kind ≢ OutOfMemory)
Tells kind (Err NoMemory) = Unit {0}

-- what a line comes to that has no error
abbrev pub Gives : Option Command → Result Asked WordsError → Type 0
Gives command (Ok (asked.Command c)) = command ≡ Some c
Gives command (Ok (asked.Text text)) = ⊥
Gives command (Err Usage) = command ≡ None
Gives command (Err NoMemory) = ⊥

-- words in which `clap` finds no fault name a command
abbrev pub NamesACommand : CommandLine → List Text → Type 0
NamesACommand line words = fault_of (app_of_line line) words ≡ [] → command_found (subcommand_of (app_of_line line) words) ≢ None

-- words that are no plain line are answered as the command line says
pub record Reads (words : List Text) (answer : Result Asked WordsError) : Type 0 where
  pub line : CommandLine
  pub named : NamesACommand line words
  pub allowed : Allows (fault_of (app_of_line line) words) (command_found (subcommand_of (app_of_line line) words)) answer

-- the numbers of a command that is asked for are in their ranges
abbrev pub IsAskedInRange : Asked → Type 0
IsAskedInRange (asked.Command command) = IsInRange command
IsAskedInRange (asked.Text text) = Unit {0}

-- a fault that asks for no text, and is no want of memory
abbrev pub IsFault : ErrorKind → Type 0
IsFault kind = (asks_for_text kind ≡ false) × (kind ≢ OutOfMemory)

-- words may have a fault of these kinds that asks for no text
abbrev pub HasFault : Kinds → Type 0
HasFault kinds = SomeKind false kinds

-- words that are refused: `clap` finds a fault in them that asks for no text
pub record IsRefused (words : List Text) : Type 0 where
  pub line : CommandLine
  pub fault : HasFault (fault_of (app_of_line line) words)
