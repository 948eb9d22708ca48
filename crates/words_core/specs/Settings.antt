-- The options of each command: which it takes, in which ranges, and with which defaults. Plain lines and the command line of
-- other words are both read by this table.
use Rattle.std.specs.Prelude.{ℕ, ◌≤◌, ◌^◌, Bool, false, ◌&&◌, nat_le, nat_lt, List, [], ◌∷◌, Option, Some, None, codes, find}
use Rattle.std.specs.Str.{bytes_eq}
use Rattle.words_core.specs.declared.command.Verb.{Verb}
use Rattle.words_core.specs.declared.command.Verb.TheVariants.{Format, Serve, Replay, Print, Pack, Generate, Board, Ship, Standby}
use Rattle.words_core.specs.declared.setting.Setting.{Setting}
use Rattle.words_core.specs.declared.setting.Setting.TheVariants.{Limit, From, Seed, Symbols, Records, Workers, Batch, Bytes, Kind, Summary}
use Rattle.words_core.specs.declared.setting.Value.{Value}
use Rattle.words_core.specs.declared.setting.Value.TheVariants as values

-- all options, in the order in which the line of a command has them
abbrev pub settings : List Setting
settings = Limit ∷ From ∷ Seed ∷ Symbols ∷ Records ∷ Workers ∷ Batch ∷ Bytes ∷ Kind ∷ Summary ∷ []

-- the name of an option
abbrev pub name_of : Setting → List ℕ
name_of Limit = codes "limit"
name_of From = codes "from"
name_of Seed = codes "seed"
name_of Symbols = codes "symbols"
name_of Records = codes "records"
name_of Workers = codes "workers"
name_of Batch = codes "batch"
name_of Bytes = codes "bytes"
name_of Kind = codes "kind"
name_of Summary = codes "summary"

-- the option of a word, which is its name behind two hyphens (45)
abbrev pub setting_of : List ℕ → Option Setting
setting_of word = find (λ setting. bytes_eq word (45 ∷ 45 ∷ name_of setting)) settings

-- a number from the first to the second, and the default, where there is one
abbrev pub number : ℕ → ℕ → Option ℕ → Option Value
number least most default = Some (values.Number least most default)

-- what a command takes as an option; None where it doesn't take it
unfoldable pub takes : Verb → Setting → Option Value
takes Format Limit = number 1 2000000000 (Some 100000000)
takes Serve From = number 1 18446744073709551615 None
takes Serve Workers = number 1 64 (Some 1)
takes Serve Batch = number 1 64 (Some 64)
takes Serve Bytes = number 1 1099511627776 (Some 1099511627776)
takes Replay Workers = number 1 64 (Some 1)
takes Replay Bytes = number 1 1099511627776 (Some 1099511627776)
takes Print Kind = Some values.Kind
takes Pack Kind = Some values.Kind
takes Generate Seed = number 0 18446744073709551615 (Some 1)
takes Generate Symbols = number 1 16384 (Some 500)
takes Generate Records = number 0 100000000 (Some 400000)
takes Generate Workers = number 1 64 (Some 1)
takes Generate Summary = Some values.Nothing
takes Board Bytes = number 1 1073741824 (Some 1073741824)
takes Ship From = number 1 18446744073709551615 (Some 1)
takes Standby Batch = number 1 64 (Some 64)
takes Standby Bytes = number 1 1099511627776 (Some 1099511627776)
takes verb setting = None

-- a number in the range of a value
abbrev pub IsIn : Option Value → ℕ → Type 0
IsIn (Some (values.Number least most default)) n = (least ≤ n) × (n ≤ most)
IsIn value n = ⊥

-- the default of a number that has one
abbrev pub default_of : Option Value → ℕ
default_of (Some (values.Number least most (Some default))) = default
default_of value = 0

-- numbers of 32 bits, with a default among them
abbrev pub is_small : Option Value → Bool
is_small (Some (values.Number least most (Some default))) = nat_lt most (2 ^ 32) && nat_le default most
is_small value = false
