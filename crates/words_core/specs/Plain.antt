-- Plain lines: a command, and then each of its options at most once, in any order, as the two words of its name and its
-- value. The option --summary is one word. They ask for the command with these values, and with defaults for the rest.
use Rattle.std.specs.Prelude.{ℕ, Bool, false, List, [], ◌∷◌, Option, Some, None, if◌then◌else◌, codes, is_some, option_map, option_and_then, unwrap_or, IfSome}
use Rattle.std.specs.Str.{bytes_eq}
use Rattle.words_core.specs.Commands.{verb_of, kind_of}
use Rattle.words_core.specs.Numbers.{is_plain, numeral_in}
use Rattle.words_core.specs.Settings.{IsIn, default_of, setting_of, takes}
use Rattle.words_core.specs.declared.command.Command.{Command}
use Rattle.words_core.specs.declared.command.Command.TheVariants as commands
use Rattle.words_core.specs.declared.command.Verb.{Verb}
use Rattle.words_core.specs.declared.command.Verb.TheVariants.{Format, Serve, Replay, Status, Print, Pack, Generate, Roll, Board, Cross, Audit, Ship, Standby}
use Rattle.words_core.specs.declared.options.Options.{Options}
use Rattle.words_core.specs.declared.setting.Setting.{Setting}
use Rattle.words_core.specs.declared.setting.Setting.TheVariants.{Limit, From, Seed, Symbols, Records, Workers, Batch, Bytes, Kind, Summary}
use Rattle.words_core.specs.declared.setting.Value.{Value}
use Rattle.words_core.specs.declared.setting.Value.TheVariants as values

-- no option was given
abbrev pub no_options : Options
no_options = record {
  limit = None;
  from = None;
  seed = None;
  symbols = None;
  records = None;
  workers = None;
  batch = None;
  bytes = None;
  kind = None;
  summary = false;
}

-- the number that was given of an option
abbrev pub given_of : Setting → Options → Option ℕ
given_of Limit given = given.limit
given_of From given = given.from
given_of Seed given = given.seed
given_of Symbols given = given.symbols
given_of Records given = given.records
given_of Workers given = given.workers
given_of Batch given = given.batch
given_of Bytes given = given.bytes
given_of setting given = None

abbrev pub with_number : Setting → ℕ → Options → Options
with_number Limit n given = record given { limit = Some n }
with_number From n given = record given { from = Some n }
with_number Seed n given = record given { seed = Some n }
with_number Symbols n given = record given { symbols = Some n }
with_number Records n given = record given { records = Some n }
with_number Workers n given = record given { workers = Some n }
with_number Batch n given = record given { batch = Some n }
with_number Bytes n given = record given { bytes = Some n }
with_number setting n given = given

abbrev pub is_given : Setting → Options → Bool
is_given Kind given = is_some given.kind
is_given Summary given = given.summary
is_given setting given = is_some (given_of setting given)

-- the options with one more, which has this value by its word
abbrev pub with_word : Option Value → Setting → List ℕ → Options → Option Options
with_word (Some (values.Number least most default)) setting word given = option_map (λ n. with_number setting n given) (numeral_in least most word)
with_word (Some values.Kind) setting word given = option_map (λ kind. record given { kind = Some kind }) (kind_of word)
with_word (Some values.Nothing) setting word given = Some (record given { summary = bytes_eq word (codes "true") })
with_word None setting word given = None

-- the options with one more, where the command takes it and there is a word
abbrev pub with_any : Option Value → Setting → Option (List ℕ) → Options → Option Options
with_any None setting word given = Some given
with_any value setting None given = Some given
with_any value setting (Some word) given = with_word value setting word given

-- the options with one more, which the command takes, and which was not given before
abbrev pub with_once : Verb → Options → List ℕ → Setting → Option Options
with_once verb given word setting = if is_given setting given then None else with_word (takes verb setting) setting word given

-- the same under its name and with its value
abbrev pub with_option : Verb → Options → List ℕ → List ℕ → Option Options
with_option verb given name word = if is_plain word then option_and_then (with_once verb given word) (setting_of name) else None

-- the options with --summary
abbrev pub with_summary : Verb → Options → Option Options
with_summary verb given = with_once verb given (codes "true") Summary

abbrev pub is_summary : List ℕ → Bool
is_summary name = bytes_eq name (codes "--summary")

-- the options of the words behind a command
abbrev pub options_of : Verb → Options → List (List ℕ) → Option Options
options_of verb given [] = Some given
options_of verb given (name ∷ []) = if is_summary name then with_summary verb given else None
options_of verb given (name ∷ value ∷ words) =
    if is_summary name then option_and_then (λ more. options_of verb more (value ∷ words)) (with_summary verb given)
    else option_and_then (λ more. options_of verb more words) (with_option verb given name value)

-- the number of an option: the one that was given, or else its default
abbrev pub number_of : Verb → Setting → Options → ℕ
number_of verb setting given = unwrap_or (given_of setting given) (default_of (takes verb setting))

-- a command with its options, of which `--kind` has to be given
abbrev pub command_with : Verb → Options → Option Command
command_with Format given = Some (commands.Format (number_of Format Limit given))
command_with Serve given =
    Some (commands.Serve given.from (number_of Serve Workers given) (number_of Serve Batch given) (number_of Serve Bytes given))
command_with Replay given = Some (commands.Replay (number_of Replay Workers given) (number_of Replay Bytes given))
command_with Status given = Some commands.Status
command_with Print given = option_map (λ kind. commands.Print kind) given.kind
command_with Pack given = option_map (λ kind. commands.Pack kind) given.kind
command_with Generate given =
    Some
    (commands.Generate (number_of Generate Seed given) (number_of Generate Symbols given) (number_of Generate Records given) (number_of Generate Workers given) given.summary)
command_with Roll given = Some commands.Roll
command_with Board given = Some (commands.Board (number_of Board Bytes given))
command_with Cross given = Some commands.Cross
command_with Audit given = Some commands.Audit
command_with Ship given = Some (commands.Ship (number_of Ship From given))
command_with Standby given = Some (commands.Standby (number_of Standby Batch given) (number_of Standby Bytes given))

-- the command of a plain line; none where the words are no such line
abbrev pub command_of : List (List ℕ) → Option Command
command_of [] = None
command_of (word ∷ words) = option_and_then (λ verb. option_and_then (command_with verb) (options_of verb no_options words)) (verb_of word)

-- each number that was given is in its range
abbrev pub IsWithin : Verb → Options → Type 0
IsWithin verb given = (setting : Setting) → IfSome (given_of setting given) (IsIn (takes verb setting))
