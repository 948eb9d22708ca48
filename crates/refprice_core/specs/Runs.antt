-- The reference prices of a stock's runs: the calls, and what they gave, each list with the newest first.
use Rattle.std.specs.Prelude.{ℕ, Option, Some, None, List, [], ◌∷◌}
use Rattle.std.specs.Option.{option_map_or}
use Rattle.refprice_core.specs.declared.reference.Adoption.{Adoption}
use Rattle.refprice_core.specs.declared.reference.Priced.{Priced}
use Rattle.refprice_core.specs.Prices.{observed, forced}

-- a run begins, or it begins at the price of a reopening; an observation with the price that is offered and the mean; the
-- end of a limit state with the mean; a price is adopted
pub data Call : Type 0 where
  Begin : ℕ → Call
  Release : ℕ → ℕ → Call
  Observe : ℕ → Option ℕ → Option ℕ → Call
  Force : ℕ → Option ℕ → Call
  Adopt : ℕ → ℕ → Call

-- a run began, or a reference price was adopted
pub data Event : Type 0 where
  Began : ℕ → Event
  Adopted : Adoption → Event

-- the moment at which the last run began
abbrev pub begun_in : List Event → ℕ
begun_in [] = 0
begun_in (Began t ∷ earlier) = t
begun_in (Adopted a ∷ earlier) = begun_in earlier

-- the last adoption of the last run
abbrev pub last_in : List Event → Option Adoption
last_in [] = None
last_in (Began t ∷ earlier) = None
last_in (Adopted a ∷ earlier) = Some a

-- a new reference price, or none, is adopted at t
abbrev pub adopting : ℕ → Option Priced → List Event → List Event
adopting t priced earlier = option_map_or (λ p. Adopted (record { moment = t; price = p.price }) ∷ earlier) priced earlier

-- what these calls gave
abbrev pub events : List Call → List Event
events [] = []
events (Begin t ∷ calls) = Began t ∷ events calls
events (Release t price ∷ calls) = Adopted (record { moment = t; price = price }) ∷ Began t ∷ events calls
events (Observe t offered mean ∷ calls) =
    let earlier = events calls in
    adopting t (observed (begun_in earlier) (last_in earlier) t offered mean) earlier
events (Force t mean ∷ calls) = adopting t (forced mean) (events calls)
events (Adopt t price ∷ calls) = Adopted (record { moment = t; price = price }) ∷ events calls
