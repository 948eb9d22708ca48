-- What is kept of a stock's reference price.
use Rattle.std.specs.Prelude.{◌≡◌, ℕ, Option, Some, List}
use Rattle.std.specs.Option.{option_map_or}
use Rattle.refprice_core.specs.declared.reference.Adoption.{Adoption}
use Rattle.refprice_core.specs.declared.reference.Priced.{Priced}
use Rattle.refprice_core.specs.Runs.{Call, events, begun_in, last_in}

-- the moment at which the run began, and its last adoption
pub record ReferenceState : Type 0 where
  pub begun : ℕ
  pub last : Option Adoption

-- a reference price is adopted at t
abbrev pub with_price : ℕ → ReferenceState → Priced → ReferenceState
with_price t kept priced = record kept { last = Some (record { moment = t; price = priced.price }) }

-- a new reference price, or none, is adopted at t
abbrev pub with_adopted : ℕ → Option Priced → ReferenceState → ReferenceState
with_adopted t priced kept = option_map_or (with_price t kept) priced kept

-- a reference represents the calls so far
pub record Represents (kept : ReferenceState) (calls : List Call) : Type 0 where
  pub begun : kept.begun ≡ begun_in (events calls)
  pub last : kept.last ≡ last_in (events calls)
