-- What stands for a market of several workers that rest.
use Rattle.std.specs.Prelude.{ℕ, List, Option, None, Some, IfSome, length}
use Rattle.wire_in.specs.declared.record.Record.{Record}
use Rattle.market_core.specs.MarketState as markets
use Rattle.market_core.specs.MarketState.{MarketState}
use Rattle.evaluator_core.specs.declared.resting.Resting.{Resting}

-- it stands for the list of evaluated records, the newest first; one that was shared out, or found no memory to be, stands for any
abbrev pub RepresentsResting : Resting → List Record → Type 0
RepresentsResting resting evaluated = IfSome resting.market (λ market. markets.Represents market evaluated)

-- how many names were ever listed
abbrev pub names_in : Option MarketState → ℕ
names_in (Some market) = length market.directory
names_in None = 0

-- of how many names a block's records are worth threads
abbrev pub fewest_names : ℕ
fewest_names = 2048

-- and by how many workers
abbrev pub fewest_workers : ℕ
fewest_workers = 4
