-- The command line: its commands, their options, and the range of each number, as the crate that reads other lines than plain
-- ones takes them.
use Rattle.std.specs.Prelude.{◌≡◌, true, List, [], ◌∷◌, Option, Some, None, codes, fold, map}
use Rattle.std.specs.Borrow.{Bor}
use Rattle.clap.specs.Words.{App, Rule, Text, new_app, new_rule, with_rule, with_subcommand}
use Rattle.clap.specs.Simple.{on_top}
use Rattle.clap.specs.declared.builder.action.ArgAction.TheVariants.{SetTrue}
use Rattle.clap.specs.declared.builder.value_parser.ValueParser.{ValueParser}
use Rattle.clap.specs.declared.builder.value_parser.ValueParser.TheVariants.{Unsigned, Names}
use Rattle.words_core.specs.Commands.{verbs, word_of}
use Rattle.words_core.specs.Settings.{name_of, settings, takes}
use Rattle.words_core.specs.declared.command.Verb.{Verb}
use Rattle.words_core.specs.declared.setting.Setting.{Setting}
use Rattle.words_core.specs.declared.setting.Value.{Value}
use Rattle.words_core.specs.declared.setting.Value.TheVariants as values

-- an option `--name`
abbrev pub named : Setting → Rule
named setting = record (new_rule (name_of setting)) { long = Some (name_of setting) }

-- an option `--name` with one value
abbrev pub valued : Setting → ValueParser → Rule
valued setting parser = record (named setting) { value_names = 1; parser = Some parser }

-- An option with what it takes: `--kind` is required, and has a value that passes this parser. A default is no matter of the line.
abbrev pub option_of : ValueParser → Setting → Value → Rule
option_of kind setting (values.Number least most default) = valued setting (Unsigned least most)
option_of kind setting values.Kind = record (valued setting kind) { required = true }
option_of kind setting values.Nothing = record (named setting) { action = Some SetTrue }

-- the rules of an option: one, or none where the command doesn't take it
abbrev pub rules_of : ValueParser → Setting → Option Value → List Rule
rules_of kind setting None = []
rules_of kind setting (Some value) = option_of kind setting value ∷ []

abbrev pub with_setting : ValueParser → Verb → App → Setting → App
with_setting kind verb line setting = fold with_rule line (rules_of kind setting (takes verb setting))

-- the line of a command, with each option that it takes
abbrev pub line_of : ValueParser → Verb → App
line_of kind verb = fold (with_setting kind verb) (new_app (word_of verb)) settings

-- the program, of which one command is required; the words do not begin with its own name
abbrev pub program : App
program = on_top (λ s. record s { no_binary_name = true; has_version = true; subcommand_required = true }) (new_app (codes "halts"))

-- the program with one command more
unfoldable pub with_command : ValueParser → App → Verb → App
with_command kind halts verb = with_subcommand halts (line_of kind verb).top

-- the whole command line
abbrev pub halts_line : Bor (List (Bor Text)) → App
halts_line kinds = fold (with_command (Names kinds)) program verbs

-- the command line, wherever the two words of its kinds stand
pub record CommandLine : Type 0 where
  pub kinds : Bor (List (Bor Text))
  pub words : map (λ word. word.now) kinds.now ≡ codes "records" ∷ codes "published" ∷ []

abbrev pub app_of_line : CommandLine → App
app_of_line line = halts_line line.kinds
