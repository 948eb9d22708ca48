-- One market, evaluated record by record or ahead.
use Rattle.std.specs.Prelude.{◌≡◌, ◌&&◌, ℕ, Bool, List, [], false, true, IsSome, length, nat_le}
use Rattle.wire_in.specs.declared.record.Record.{Record}
use Rattle.market_core.specs.MarketState as markets
use Rattle.market_core.specs.Room as rooms
use Rattle.evaluator_core.specs.declared.evaluator.Evaluator.{Evaluator}
use Rattle.evaluator_core.specs.declared.evaluator.Evaluator.TheVariants.{One, Resting, Many}
use Rattle.evaluator_core.specs.AheadState.{RepresentsAhead, HasAhead}
use Rattle.evaluator_core.specs.RestingState.{RepresentsResting, fewest_names, fewest_workers, names_in}

-- it stands for the list of evaluated records, the newest first
abbrev pub Represents : Evaluator → List Record → Type 0
Represents (One market) evaluated = markets.Represents market evaluated
Represents (Resting resting) evaluated = RepresentsResting resting evaluated
Represents (Many block) evaluated = RepresentsAhead block evaluated

-- these records, the oldest first, and no others are evaluated ahead; one worker evaluates none ahead, and several that rest don't
abbrev pub IsAhead : Evaluator → List Record → Type 0
IsAhead (One market) records = Unit {0}
IsAhead (Resting resting) records = Unit {0}
IsAhead (Many block) records = HasAhead block records

-- no record is evaluated ahead
abbrev pub IsIdle : Evaluator → Type 0
IsIdle evaluator = IsAhead evaluator []

-- several workers have found memory for each block
abbrev pub IsWorking : Evaluator → Type 0
IsWorking (One market) = Unit {0}
IsWorking (Resting resting) = IsSome resting.market
IsWorking (Many block) = block.shards.working ≡ true

-- by how many workers it is evaluated
abbrev pub workers_of : Evaluator → ℕ
workers_of (One market) = 1
workers_of (Resting resting) = resting.workers
workers_of (Many block) = length block.shards.parts

-- how many names were ever listed
abbrev pub names_of : Evaluator → ℕ
names_of (One market) = length market.directory
names_of (Resting resting) = names_in resting.market
names_of (Many block) = length block.shards.lead.directory

-- whether a block of many records is shared out: by several workers, where there are enough names
abbrev pub shares_out : Evaluator → Bool
shares_out (One market) = false
shares_out (Resting resting) = nat_le fewest_workers resting.workers && nat_le fewest_names (names_in resting.market)
shares_out (Many block) = true

-- one worker has room for what is kept of a record; of several none is known
abbrev pub HasRoomFor : Evaluator → Record → Type 0
HasRoomFor (One market) x = rooms.HasRoomFor market.symbols x
HasRoomFor (Resting resting) x = ⊥
HasRoomFor (Many block) x = ⊥
