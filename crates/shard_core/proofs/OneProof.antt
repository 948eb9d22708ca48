-- That a market represents a list has one proof at most.
use Rattle.std.proofs.Common.{ℕ, Bool, List, [], ◌∷◌}
use Rattle.std.specs.Coded.{×_prop, Unit-prop}
use Rattle.std.proofs.Props.{props}
use mathlib.Core.Sum.{⊎_set}
use Rattle.wire_in.specs.declared.record.Record.{Record}
use Rattle.wire_out.specs.declared.message.Message.{Message}
use Rattle.rulebook.specs.declared.event.Event.{Event}
use Rattle.rulebook.specs.declared.event.Event.TheVariants.{Accepted, Published}
use Rattle.symbol_core.specs.Rests.{Rests, SymbolState}
use Rattle.symbol_core.specs.Silent.{IsOfOthers, IsSilent, SaysNothing}
use Rattle.market_core.specs.MarketState.{MarketState, Represents}

silent_prop : (s : ℕ) (m : Message) → IsProp (IsSilent s m)
silent_prop s m = hlevel (props, ⊎_set)

of_others_prop : (own : List ℕ → Bool) (s : ℕ) (x : Record) → IsProp (IsOfOthers own s x)
of_others_prop own s x = hlevel (props, ⊎_set)

nothing_prop : (own : List ℕ → Bool) (s : ℕ) (h : List Event) → IsProp (SaysNothing own s h)
nothing_prop own s [] = Unit-prop
nothing_prop own s (Accepted x ∷ h) = ×_prop (of_others_prop own s x) (nothing_prop own s h)
nothing_prop own s (Published m ∷ h) = ×_prop (silent_prop s m) (nothing_prop own s h)

rests_prop : (own : List ℕ → Bool) (held : SymbolState) (h : List Event) → IsProp (Rests own held h)
rests_prop own held h = hlevel (props, ⊎_set)

pub represents_prop : (kept : MarketState) (applied : List Record) → IsProp (Represents kept applied)
represents_prop kept applied = hlevel (props, ⊎_set, rests_prop, nothing_prop)
