-- Messages and records that say nothing of a symbol.
use Rattle.std.specs.Prelude.{◌≡◌, ℕ, Bool, false, None, List, [], ◌∷◌, ◌==◌}
use Rattle.std.specs.Option.{option_map_or}
use Rattle.wire_in.specs.declared.record.Record.{Record}
use Rattle.wire_in.specs.Records.{name_of, symbol_of}
use Rattle.wire_out.specs.declared.message.Message.{Message}
use Rattle.rulebook.specs.declared.event.Event.{Event}
use Rattle.rulebook.specs.declared.event.Event.TheVariants.{Accepted, Published}
use Rattle.rulebook.specs.Auction.{collar_of}
use Rattle.rulebook.specs.Rules.{release_of}
use Rattle.rulebook.specs.Symbol.{band_of, state_of, straddle_of}

-- a message that says nothing of s
pub record IsSilent (s : ℕ) (m : Message) : Type 0 where
  pub state : state_of s m ≡ None
  pub band : band_of s m ≡ None
  pub straddle : straddle_of s m ≡ None
  pub collar : collar_of s m ≡ None
  pub release : release_of s m ≡ None

abbrev pub AllSilent : ℕ → List Message → Type 0
AllSilent s [] = Unit {0}
AllSilent s (m ∷ ms) = IsSilent s m × AllSilent s ms

-- a record that isn't of s by its id, and lists none of its names
pub record IsOfOthers (own : List ℕ → Bool) (s : ℕ) (x : Record) : Type 0 where
  pub symbol : option_map_or (λ id. id == s) (symbol_of x) false ≡ false
  pub name : option_map_or own (name_of x) false ≡ false

-- a history that says nothing of s: market-wide records, and records and messages of others
abbrev pub SaysNothing : (List ℕ → Bool) → ℕ → List Event → Type 0
SaysNothing own s [] = Unit {0}
SaysNothing own s (Accepted x ∷ h) = IsOfOthers own s x × SaysNothing own s h
SaysNothing own s (Published m ∷ h) = IsSilent s m × SaysNothing own s h
