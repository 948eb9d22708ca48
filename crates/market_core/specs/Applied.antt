-- What the code does at a record, whatever the history.
use Rattle.std.specs.Prelude.{◌≡◌, ◌≢◌, ℕ, zero, suc, ◌<◌, ◌≤◌, Bool, Option, Some, None, List, [], ◌++◌, length, position, unwrap_or, slice_get}
use Rattle.std.specs.Str.{bytes_eq}
use Rattle.wire_in.specs.declared.record.Record.{Record}
use Rattle.wire_in.specs.declared.record.Record.TheVariants as in_
use Rattle.wire_in.specs.Records.{moment_of, symbol_of}
use Rattle.wire_out.specs.declared.message.Message.{Message}
use Rattle.wire_out.specs.declared.message.Stamped.{Stamped}
use Rattle.breaker_core.specs.BreakerState.{started}
use Rattle.rulebook.specs.declared.event.Event.{Event}
use Rattle.symbol_core.specs.declared.symbol.MarketView.{MarketView}
use Rattle.symbol_core.specs.Evaluates.{Evaluates}
use Rattle.symbol_core.specs.Rests.{Rests, SymbolState}
use Rattle.symbol_core.specs.Silent.{SaysNothing}
use Rattle.market_core.specs.declared.lead.Today.{Today}
use Rattle.market_core.specs.AdmissionState.{added}
use Rattle.market_core.specs.MarketState.{MarketState}
use Rattle.market_core.specs.Ruled.{ruled, ruling, stamped, view_of}

-- a symbol is evaluated, and what it says is stamped
pub record Appends (market : MarketView) (x : Record) (old new : SymbolState) (before after : List Stamped) : Type 0 where
  pub said : List Message
  pub evaluates : Evaluates market x old new [] said
  pub items : after ≡ before ++ stamped (moment_of x) said

-- the symbol of an id is evaluated
pub record AppendsAt (s : ℕ) (market : MarketView) (x : Record) (old new : List SymbolState) (before after : List Stamped) : Type 0 where
  pub was : SymbolState
  pub is : SymbolState
  pub found : slice_get old s ≡ Some was
  pub left : slice_get new s ≡ Some is
  pub appends : Appends market x was is before after

-- the symbols of the ids below n are evaluated, one after the other
abbrev pub AppendsBelow : ℕ → MarketView → Record → List SymbolState → List SymbolState → List Stamped → List Stamped → Type 0
AppendsBelow zero market x old new before after = after ≡ before
AppendsBelow (suc n) market x old new before after =
    (middle : List Stamped) × AppendsBelow n market x old new before middle × AppendsAt n market x old new middle after

-- the symbol of an id is evaluated, and the others are left as they were
pub record AppendsOne (s : ℕ) (market : MarketView) (x : Record) (old new : List SymbolState) (before after : List Stamped) : Type 0 where
  pub count : length new ≡ length old
  pub at : AppendsAt s market x old new before after
  pub others : (k : ℕ) → k ≢ s → slice_get new k ≡ slice_get old k

-- all symbols are evaluated
pub record EachEvaluated (today : Today) (x : Record) (old new : MarketState) (before after : List Stamped) : Type 0 where
  pub directory : new.directory ≡ old.directory
  pub today_is : new.today ≡ Some today
  pub count : length new.symbols ≡ length old.symbols
  pub appends : AppendsBelow (length old.symbols) (view_of today) x old.symbols new.symbols before after

-- one symbol is evaluated, and the others are left as they were
pub record OneEvaluated (s : ℕ) (today : Today) (x : Record) (old new : MarketState) (before after : List Stamped) : Type 0 where
  pub directory : new.directory ≡ old.directory
  pub today_is : new.today ≡ old.today
  pub count : length new.symbols ≡ length old.symbols
  pub appends : AppendsAt s (view_of today) x old.symbols new.symbols before after
  pub others : (k : ℕ) → k ≢ s → slice_get new.symbols k ≡ slice_get old.symbols k

-- a symbol of which nothing was said
pub record IsNew (s : ℕ) (held : SymbolState) : Type 0 where
  pub id : held.kept.id ≡ s
  pub rests : (own : List ℕ → Bool) (h : List Event) → SaysNothing own s h → Rests own held h

-- the symbol of a name is found, or made behind the others
pub record Finds (name : List ℕ) (s : ℕ) (old new : MarketState) : Type 0 where
  pub id : s ≡ unwrap_or (position (bytes_eq name) old.directory) (length old.directory)
  pub directory : new.directory ≡ added old.directory (position (bytes_eq name) old.directory) name
  pub today : new.today ≡ old.today
  pub count : length new.symbols ≡ length new.directory
  pub earlier : (k : ℕ) → k < length old.symbols → slice_get new.symbols k ≡ slice_get old.symbols k
  pub later : (k : ℕ) (held : SymbolState) → length old.symbols ≤ k → slice_get new.symbols k ≡ Some held → IsNew k held

-- the symbol of a listed name is evaluated
pub record Lists (name : List ℕ) (today : Today) (x : Record) (old new : MarketState) (before after : List Stamped) : Type 0 where
  pub symbol : ℕ
  pub with_name : MarketState
  pub finds : Finds name symbol old with_name
  pub evaluated : OneEvaluated symbol today x with_name new before after

-- on a day that has begun
abbrev pub OnToday : MarketState → (Today → Type 0) → Type 0
OnToday kept P = (today : Today) → kept.today ≡ Some today → P today

abbrev pub Ticks : Record → MarketState → MarketState → List Stamped → List Stamped → Type 0
Ticks x old new before after = OnToday old (λ today. EachEvaluated (ruled x today) x old new (before ++ stamped (moment_of x) (ruling x today)) after)

abbrev pub Evaluated : ℕ → Record → MarketState → MarketState → List Stamped → List Stamped → Type 0
Evaluated s x old new before after = OnToday old (λ today. s < length old.symbols → OneEvaluated s today x old new before after)

-- at a record of one symbol, or of the market
abbrev pub ByTarget : Option ℕ → Record → MarketState → MarketState → List Stamped → List Stamped → Type 0
ByTarget (Some s) x old new before after = Evaluated s x old new before after
ByTarget None x old new before after = Ticks x old new before after

abbrev pub Applies : Record → MarketState → MarketState → List Stamped → List Stamped → Type 0
Applies (in_.Day t d c) old new before after = EachEvaluated (record { day = d; breaker = started c }) (in_.Day t d c) old new before after
Applies (in_.Listing t name k l c) old new before after = OnToday old (λ today. Lists name today (in_.Listing t name k l c) old new before after)
Applies x old new before after = ByTarget (symbol_of x) x old new before after
