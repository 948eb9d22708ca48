-- The numbers that are given stay in their ranges, and so do those of a command.
use Rattle.std.proofs.Common.{◌≡◌, ℕ, ◌<◌, ◌≤◌, ◌^◌, ◌&&◌, Bool, Option, Some, None, arith, leb-true, lit≤, ltb-true, nat_le, nat_lt, sym, true, true≢false}
use Rattle.std.specs.Prelude.{IfSome, option_map, unwrap_or}
use Rattle.std.proofs.lemmas.Option.{IfSome_then}
use Rattle.clap.proofs.WalkLemmas.{both}
use Rattle.text_core.specs.declared.kind.Kind.{Kind}
use Rattle.words_core.specs.Commands.{IsInRange}
use Rattle.words_core.specs.Settings.{IsIn, default_of, is_small, takes}
use Rattle.words_core.specs.Plain.{IsWithin, command_with, given_of, no_options, number_of, with_number}
use Rattle.words_core.specs.declared.command.Command.{Command}
use Rattle.words_core.specs.declared.command.Command.TheVariants as commands
use Rattle.words_core.specs.declared.command.Verb.{Verb}
use Rattle.words_core.specs.declared.command.Verb.TheVariants.{Format, Serve, Replay, Print, Pack, Generate, Board, Ship, Standby}
use Rattle.words_core.specs.declared.options.Options.{Options}
use Rattle.words_core.specs.declared.setting.Setting.{Setting}
use Rattle.words_core.specs.declared.setting.Setting.TheVariants.{Limit, From, Seed, Symbols, Records, Workers, Batch, Bytes}
use Rattle.words_core.specs.declared.setting.Value.{Value}
use Rattle.words_core.specs.declared.setting.Value.TheVariants as values

-- ---- what is given

pub none_within : (verb : Verb) (setting : Setting) → IfSome (given_of setting no_options) (IsIn (takes verb setting))
none_within verb Limit = tt
none_within verb setting = tt

pub put_within : (verb : Verb) (setting : Setting) (n : ℕ) (given : Options) → IsIn (takes verb setting) n → IsWithin verb given
    → (other : Setting) → IfSome (given_of other (with_number setting n given)) (IsIn (takes verb other))
put_within verb Limit n given is within Limit = is
put_within verb From n given is within From = is
put_within verb Seed n given is within Seed = is
put_within verb Symbols n given is within Symbols = is
put_within verb Records n given is within Records = is
put_within verb Workers n given is within Workers = is
put_within verb Batch n given is within Batch = is
put_within verb Bytes n given is within Bytes = is
put_within verb setting n given is within other = within other

pub kind_within : (verb : Verb) (kind : Option Kind) (given : Options) → IsWithin verb given
    → (setting : Setting) → IfSome (given_of setting (record given { kind = kind })) (IsIn (takes verb setting))
kind_within verb kind given within Limit = within Limit
kind_within verb kind given within setting = within setting

pub summary_within : (verb : Verb) (summary : Bool) (given : Options) → IsWithin verb given
    → (setting : Setting) → IfSome (given_of setting (record given { summary = summary })) (IsIn (takes verb setting))
summary_within verb summary given within Limit = within Limit
summary_within verb summary given within setting = within setting

-- ---- the number of an option

small : (least most default : ℕ) (o : Option ℕ) → (nat_lt most (2 ^ 32) && nat_le default most) ≡ true → IfSome o (λ n. (least ≤ n) × (n ≤ most)) → unwrap_or o default < 2 ^ 32
small least most default None is within = let parts = both (nat_lt most (2 ^ 32)) _ is in omega (arith, ltb-true _ _ parts.0, leb-true _ _ parts.1)
small least most default (Some n) is within = omega (arith, ltb-true _ _ (both (nat_lt most (2 ^ 32)) _ is).0, within.1)

pub number_small : (verb : Verb) (setting : Setting) (given : Options) → IsWithin verb given → is_small (takes verb setting) ≡ true → number_of verb setting given < 2 ^ 32
number_small verb setting given within is = go (takes verb setting) (given_of setting given) (within setting) is
  where
    go : (value : Option Value) (o : Option ℕ) → IfSome o (IsIn value) → is_small value ≡ true → unwrap_or o (default_of value) < 2 ^ 32
    go (Some (values.Number least most (Some default))) o within is = small least most default o is within
    go value o within is = absurd (true≢false (sym is))

number_within : (verb : Verb) (setting : Setting) (given : Options) → IsWithin verb given → IsIn (takes verb setting) (default_of (takes verb setting))
    → IsIn (takes verb setting) (number_of verb setting given)
number_within verb setting given within default = go (given_of setting given) (within setting)
  where
    go : (o : Option ℕ) → IfSome o (IsIn (takes verb setting)) → IsIn (takes verb setting) (unwrap_or o (default_of (takes verb setting)))
    go None is = default
    go (Some n) is = is

-- ---- a command

of_kind : (make : Kind → Command) → ((kind : Kind) → IsInRange (make kind)) → (o : Option Kind) → IfSome (option_map make o) IsInRange
of_kind make each None = tt
of_kind make each (Some kind) = each kind

pub command_within : (verb : Verb) (given : Options) → IsWithin verb given → IfSome (command_with verb given) IsInRange
unfolding takes
command_within Format given w = number_within Format Limit given w (lit≤ tt, lit≤ tt)
command_within Serve given w =
    let from = IfSome_then given.from (w From) (λ n is. is.0) in
    let workers = number_within Serve Workers given w (lit≤ tt, lit≤ tt) in
    let batch = number_within Serve Batch given w (lit≤ tt, lit≤ tt) in
    let bytes = number_within Serve Bytes given w (lit≤ tt, lit≤ tt) in
    (from, workers.0, workers.1, batch.0, batch.1, bytes.0, bytes.1)
command_within Replay given w =
    let workers = number_within Replay Workers given w (lit≤ tt, lit≤ tt) in
    let bytes = number_within Replay Bytes given w (lit≤ tt, lit≤ tt) in
    (workers.0, workers.1, bytes.0, bytes.1)
command_within Print given w = of_kind (λ kind. commands.Print kind) (λ kind. tt) given.kind
command_within Pack given w = of_kind (λ kind. commands.Pack kind) (λ kind. tt) given.kind
command_within Generate given w =
    let symbols = number_within Generate Symbols given w (lit≤ tt, lit≤ tt) in
    let records = number_within Generate Records given w (lit≤ tt, lit≤ tt) in
    let workers = number_within Generate Workers given w (lit≤ tt, lit≤ tt) in
    (symbols.0, symbols.1, records.1, workers.0, workers.1)
command_within Board given w = number_within Board Bytes given w (lit≤ tt, lit≤ tt)
command_within Ship given w = (number_within Ship From given w (lit≤ tt, lit≤ tt)).0
command_within Standby given w =
    let batch = number_within Standby Batch given w (lit≤ tt, lit≤ tt) in
    let bytes = number_within Standby Bytes given w (lit≤ tt, lit≤ tt) in
    (batch.0, batch.1, bytes.0, bytes.1)
command_within verb given w = tt
