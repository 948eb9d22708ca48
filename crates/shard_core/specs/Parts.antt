-- What a part of a market does at a record: the stocks of a range of ids.
use Rattle.std.specs.Prelude.{◌≡◌, ℕ, ◌+◌, ◌-◌, ◌<◌, ◌≤◌, nat_le, nat_lt, Bool, true, false, ◌||◌, ◌&&◌, List, [], ◌∷◌, ◌++◌, length}
use Rattle.wire_in.specs.declared.record.Record.{Record}
use Rattle.wire_in.specs.Records.{is_day, is_tick}
use Rattle.wire_out.specs.declared.message.Stamped.{Stamped}
use Rattle.symbol_core.specs.declared.symbol.MarketView.{MarketView}
use Rattle.symbol_core.specs.Rests.{SymbolState}
use Rattle.market_core.specs.Applied.{AppendsBelow, AppendsOne, IsNew}
use Rattle.shard_core.specs.declared.turns.Target.{Target}
use Rattle.shard_core.specs.declared.turns.Target.TheVariants.{Each, One, New}

-- a record, what the market is to its stocks then, and whom it is for
pub record Note : Type 0 where
  pub record_of : Record
  pub view : MarketView
  pub target : Target

-- a Day, a clock or an index tick
abbrev pub is_for_all : Record → Bool
is_for_all x = is_day x || is_tick x

-- nothing is said, and the stocks stay as they are
abbrev pub Stays : List SymbolState → List SymbolState → List Stamped → Type 0
Stays old new said = (new ≡ old) × (said ≡ [])

-- a new stock is added behind the others, and evaluated
pub record Adds (id : ℕ) (view : MarketView) (x : Record) (old new : List SymbolState) (said : List Stamped) : Type 0 where
  pub stock : SymbolState
  pub is_new : IsNew id stock
  pub one : AppendsOne (length old) view x (old ++ stock ∷ []) new [] said

-- the stocks of the ids from one on take a record: all of them, the one that it is for, or where they are the last ones also a new one
abbrev pub TakesFor : Target → ℕ → Bool → MarketView → Record → List SymbolState → List SymbolState → List Stamped → Type 0
TakesFor Each start last view x old new said = (length new ≡ length old) × (is_for_all x ≡ true → AppendsBelow (length old) view x old new [] said)
TakesFor (One id) start last view x old new said =
    (id < start → Stays old new said) × (start + length old ≤ id → Stays old new said) × ((index : ℕ) → id ≡ start + index → index < length old → AppendsOne index view x old new [] said)
TakesFor (New id) start last view x old new said = (last ≡ false → Stays old new said) × (last ≡ true → Adds id view x old new said)

-- whether a record is for so many stocks of the ids from one on
abbrev pub is_for : Target → ℕ → Bool → ℕ → Bool
is_for Each start last count = true
is_for (One id) start last count = nat_le start id && nat_lt (id - start) count
is_for (New id) start last count = last

abbrev pub Takes : ℕ → Bool → Note → List SymbolState → List SymbolState → List Stamped → Type 0
Takes start last note old new said = TakesFor note.target start last note.view note.record_of old new said

-- the stocks take records one after the other, and these are the messages at each
abbrev pub TakesAll : ℕ → Bool → List Note → List SymbolState → List SymbolState → List (List Stamped) → Type 0
TakesAll start last [] old new told = (new ≡ old) × (told ≡ [])
TakesAll start last (note ∷ notes) old new told =
    (middle : List SymbolState) × (said : List Stamped) × (later : List (List Stamped)) × Takes start last note old middle said × TakesAll start last notes middle new later × (told ≡ said ∷ later)

-- two lists of messages for each record, one behind the other at each
abbrev pub behind_each : List (List Stamped) → List (List Stamped) → List (List Stamped)
behind_each [] later = []
behind_each (first ∷ firsts) [] = []
behind_each (first ∷ firsts) (later ∷ laters) = (first ++ later) ∷ behind_each firsts laters

-- what one of several ranges does: its stocks before and after, and its messages at each record
pub record Taken : Type 0 where
  pub old : List SymbolState
  pub new : List SymbolState
  pub told : List (List Stamped)

-- ranges that lie one behind the other from an id on take records, and the last one takes new stocks
abbrev pub PartsTake : ℕ → List Note → Taken → List Taken → Type 0
PartsTake start notes first [] = TakesAll start true notes first.old first.new first.told
PartsTake start notes first (next ∷ later) = TakesAll start false notes first.old first.new first.told × PartsTake (start + length first.old) notes next later

-- all of them as one
abbrev pub whole_of : Taken → List Taken → Taken
whole_of first [] = first
whole_of first (next ∷ later) = record {
  old = first.old ++ (whole_of next later).old;
  new = first.new ++ (whole_of next later).new;
  told = behind_each first.told (whole_of next later).told;
}
