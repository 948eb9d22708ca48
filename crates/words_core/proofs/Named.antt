-- The commands of the command line, and the theorem: a line in which `clap` finds no fault names one of them.
use Rattle.std.proofs.Common.{◌≡◌, ◌∙◌, ◌⊎◌, ◌≢◌, ◌++◌, inl, inr, Bool, cond, codes, fold, map, true, false, refl, sym, ap, List, [], ◌∷◌, Option, Some, None, is_some, true≢false}
use Rattle.std.specs.Prelude.{◌||◌, IfSome, not, option_and_then, option_map}
use Rattle.std.specs.Option.{option_map_or}
use Rattle.std.specs.List.{find, list_all}
use Rattle.std.specs.Str.{bytes_eq}
use Rattle.clap.specs.Kinds.{check_kinds, value_kinds}
use Rattle.clap.specs.Facts.{explicit_source}
use Rattle.clap.specs.Faults.{level_fault}
use Rattle.clap.specs.Takes.{is_given}
use Rattle.clap.specs.Walk.{Row, first_of, has_row, nothing_held, rows_after}
use Rattle.clap.specs.Simple.{Shape, built, built_leaf, help_shape, new_app, with_rule}
use Rattle.clap.specs.Words.{Text, fault_of, subcommand_of}
use Rattle.clap.specs.declared.builder.value_parser.ValueParser.TheVariants as parsers
use Rattle.text_core.specs.declared.kind.Kind.{Kind as LineKind}
use Rattle.words_core.specs.Commands.{kind_of, verbs}
use Rattle.words_core.specs.Settings.{name_of, settings, takes}
use Rattle.words_core.specs.Plain.{command_with, no_options, with_any}
use Rattle.words_core.specs.Line.{CommandLine, app_of_line, line_of, option_of, with_command}
use Rattle.words_core.specs.Asked.{command_found, command_from, with_found}
use Rattle.words_core.specs.declared.command.Command.{Command}
use Rattle.words_core.specs.declared.command.Verb.{Verb}
use Rattle.words_core.specs.declared.command.Verb.TheVariants.{Format, Print, Pack}
use Rattle.words_core.specs.declared.options.Options.{Options}
use Rattle.words_core.specs.declared.setting.Setting.{Setting}
use Rattle.words_core.specs.declared.setting.Setting.TheVariants.{Limit, From, Seed, Symbols, Records, Workers, Batch, Bytes, Kind, Summary}
use Rattle.words_core.specs.declared.setting.Value.{Value}
use Rattle.words_core.specs.declared.setting.Value.TheVariants as values
use Rattle.words_core.proofs.Passing.{AllTold, is_sound, some_kind}
use Rattle.words_core.proofs.Filling.{MayRead, Reads, Takes, level_told, may_read, there_reads}
use Rattle.words_core.proofs.Leaves.{kind_taken, number_taken}
use Rattle.words_core.proofs.Naming.{AllNamed, IsNamed, app_names}

-- ---- what is there

chain : {X Y : Type 0} (f : X → Option Y) (o : Option X) → is_some o ≡ true → ((x : X) → is_some (f x) ≡ true) → is_some (option_and_then f o) ≡ true
chain f None some each = absurd (true≢false (sym some))
chain f (Some x) some each = each x

mapped : {X Y : Type 0} (f : X → Y) (o : Option X) → is_some o ≡ true → is_some (option_map f o) ≡ true
mapped f None some = some
mapped f (Some x) some = refl

only : {P : Type 0} → P ⊎ ⊥ → P
only (inl p) = p
only (inr none) = absurd none

given_row : (id : Text) (rows : List Row) → is_given id rows ≡ true → has_row id rows ≡ true
given_row id [] e = e
given_row id (r ∷ rows) e = go (bytes_eq r.id id) e (given_row id rows)
  where
    go : (b : Bool) → option_map_or (λ (x : Row). explicit_source x.source) (cond b (Some r) (find (λ x. bytes_eq x.id id) rows)) false ≡ true
        → (is_given id rows ≡ true → has_row id rows ≡ true) → (b || has_row id rows) ≡ true
    go true e later = refl
    go false e later = later e

wanted : (given : Bool) → check_kinds false false (not given || false) ≡ [] → given ≡ true
wanted true e = refl
wanted false e = absurd (some_kind _ _ e)

-- a command that stands below the program, built
abbrev leaf : Shape → Shape
leaf s = built_leaf (record s { no_binary_name = true })

module _ (line : CommandLine) where
  -- ---- the options

  abbrev shape : Verb → Shape
  shape verb = leaf (line_of (parsers.Names line.kinds) verb).top

  abbrev rows : Verb → List Text → List Row
  rows verb words = rows_after (shape verb).rules [] words

  -- a word that the parser of what an option takes lets pass
  abbrev Passed : Option Value → Text → Type 0
  Passed (Some (values.Number least most default)) v = (value_kinds false (parsers.Unsigned least most) v ≡ []) ⊎ ⊥
  Passed (Some values.Kind) v = (value_kinds false (parsers.Names line.kinds) v ≡ []) ⊎ ⊥
  Passed (Some values.Nothing) v = (value_kinds false parsers.Bool v ≡ []) ⊎ ⊥
  Passed None v = ⊥

  -- the rules of a command are those of its options
  passed : (setting : Setting) (verb : Verb) (v : Text) → Takes (shape verb).rules (name_of setting) v → Passed (takes verb setting) v
  unfolding takes
  passed Limit Format v t = t
  passed From Format v t = t
  passed Seed Format v t = t
  passed Symbols Format v t = t
  passed Records Format v t = t
  passed Workers Format v t = t
  passed Batch Format v t = t
  passed Bytes Format v t = t
  passed Kind Format v t = t
  passed Summary Format v t = t
  passed setting verb v t = t

  step : (verb : Verb) (words : List Text) → AllTold (shape verb).rules (rows verb words) → (given : Option Options) (setting : Setting) → is_some given ≡ true
      → is_some (with_found verb (rows verb words) given setting) ≡ true
  unfolding with_found
  step verb words told None setting some = absurd (true≢false (sym some))
  step verb words told (Some given) setting some =
      go (takes verb setting) (first_of (name_of setting) (rows verb words)) (read (first_of (name_of setting) (rows verb words)) (may_read (shape verb).rules (name_of setting) (rows verb words) told))
    where
      read : (o : Option Text) → MayRead (shape verb).rules (name_of setting) o → IfSome o (Passed (takes verb setting))
      read None t = tt
      read (Some v) t = passed setting verb v t

      go : (value : Option Value) (o : Option Text) → IfSome o (Passed value) → is_some (with_any value setting o given) ≡ true
      go None o p = refl
      go (Some value) None p = refl
      go (Some (values.Number least most default)) (Some v) p = mapped _ _ (number_taken least most v (only p))
      go (Some values.Kind) (Some v) p = mapped _ _ (kind_taken line v (only p))
      go (Some values.Nothing) (Some v) p = refl

  each_found : (verb : Verb) (words : List Text) → AllTold (shape verb).rules (rows verb words) → (options : List Setting) (given : Option Options) → is_some given ≡ true
      → is_some (fold (with_found verb (rows verb words)) given options) ≡ true
  each_found verb words told [] given some = some
  each_found verb words told (setting ∷ later) given some =
      each_found verb words told later (with_found verb (rows verb words) given setting) (step verb words told given setting some)

  -- a command that can be made without an option
  made : (verb : Verb) → list_all is_sound (shape verb).rules ≡ true → ((given : Options) → is_some (command_with verb given) ≡ true)
      → (words : List Text) → level_fault (shape verb) [] nothing_held words false [] ≡ [] → is_some (command_from verb (rows verb words)) ≡ true
  made verb sound each words e =
      chain (command_with verb) _ (each_found verb words (level_told (shape verb) words sound e).0 settings (Some no_options) refl) each

  -- ---- `--kind`

  abbrev text_shape : Text → Shape
  text_shape name = leaf (with_rule (new_app name) (option_of (parsers.Names line.kinds) Kind values.Kind)).top

  -- a command that is made of a kind
  abbrev Makes : (Options → Option Command) → Type 0
  Makes make = (kind : LineKind) → is_some (make (record no_options { kind = Some kind })) ≡ true

  kind_read : (make : Options → Option Command) → Makes make → (o : Option LineKind) → is_some o ≡ true
      → is_some (option_and_then make (option_and_then (λ given. Some given) (option_map (λ kind. record no_options { kind = Some kind }) o))) ≡ true
  kind_read make each None some = absurd (true≢false (sym some))
  kind_read make each (Some kind) some = each kind

  text_made : (name : Text) (make : Options → Option Command) → Makes make → (words : List Text) → level_fault (text_shape name) [] nothing_held words false [] ≡ []
      → is_some (option_and_then make (option_and_then (λ given. Some given) (with_any (Some values.Kind) Kind (first_of (codes "kind") (rows_after (text_shape name).rules [] words)) no_options))) ≡ true
  text_made name make each words e =
      let s = text_shape name in
      let found = rows_after s.rules [] words in
      let told = level_told s words refl e in
      go (first_of (codes "kind") found)
      (there_reads s.rules (codes "kind") found told.0 (given_row (codes "kind") found (wanted (is_given (codes "kind") found) told.1)))
    where
      go : (o : Option Text) → Reads (text_shape name).rules (codes "kind") o
          → is_some (option_and_then make (option_and_then (λ given. Some given) (with_any (Some values.Kind) Kind o no_options))) ≡ true
      go None t = absurd t
      go (Some v) t = kind_read make each (kind_of v) (kind_taken line v (only t))

  -- ---- the commands

  verb_named : (verb : Verb) → IsNamed (shape verb)
  unfolding takes with_found
  verb_named Print = (refl, λ help words e. text_made (codes "print") (command_with Print) (λ kind. refl) words e)
  verb_named Pack = (refl, λ help words e. text_made (codes "pack") (command_with Pack) (λ kind. refl) words e)
  verb_named verb = (refl, λ help words e. made verb refl (λ given. refl) words e)

  all_named : (listed : List Verb) → AllNamed (map shape listed ++ built_leaf help_shape ∷ [])
  all_named [] = ((refl, λ help. absurd (true≢false help)), tt)
  all_named (verb ∷ later) = (verb_named verb, all_named later)

pub names_a_command : (line : CommandLine) (words : List Text) → fault_of (app_of_line line) words ≡ [] → command_found (subcommand_of (app_of_line line) words) ≢ None
unfolding takes with_command
names_a_command line words e none =
    true≢false (sym (app_names (built (app_of_line line)) (all_named line verbs) words refl refl e) ∙ ap is_some none)
