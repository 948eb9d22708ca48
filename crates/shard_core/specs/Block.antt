-- A block of records over one market.
use Rattle.std.specs.Prelude.{◌≡◌, ℕ, Bool, suc, None, List, [], ◌∷◌, ◌++◌, flat_map, map}
use Rattle.wire_in.specs.declared.record.Record.{Record}
use Rattle.wire_out.specs.declared.message.Stamped.{Stamped}
use Rattle.rulebook.specs.Admission.{verdict}
use Rattle.rulebook.specs.Book.{newest_messages}
use Rattle.market_core.specs.Leads.{LeadState}
use Rattle.market_core.specs.MarketState as market
use Rattle.market_core.specs.Sections.{SectionState}
use Rattle.merge_core.specs.declared.tagged.Tagged.{Tagged}

-- the market's part, the stocks of each part, and whether no block has failed
pub record ShardsState : Type 0 where
  pub lead : LeadState
  pub parts : List SectionState
  pub working : Bool

-- the one market that they are
abbrev pub market_of : ShardsState → market.MarketState
market_of shards = record { directory = shards.lead.directory; today = shards.lead.today; symbols = flat_map (λ part. part.symbols) shards.parts }

-- that market represents the list of applied records, the newest first
abbrev pub Represents : ShardsState → List Record → Type 0
Represents shards applied = market.Represents (market_of shards) applied

-- the list with these records, the oldest of them first
abbrev pub followed : List Record → List Record → List Record
followed applied [] = applied
followed applied (x ∷ xs) = followed (x ∷ applied) xs

-- each of these records is admissible after those before it
abbrev pub AreAdmissible : ℕ → List Record → List Record → Type 0
AreAdmissible capacity applied [] = Unit {0}
AreAdmissible capacity applied (x ∷ xs) = (verdict capacity applied x ≡ None) × AreAdmissible capacity (x ∷ applied) xs

-- messages with the index of their record
abbrev pub tagged : ℕ → List Stamped → List Tagged
tagged index messages = map (λ message. record { input = index; stamped = message }) messages

-- what one market gives for each of these records after those applied, from an index on
abbrev pub given_from : ℕ → List Record → List Record → List Tagged
given_from index applied [] = []
given_from index applied (x ∷ xs) = tagged index (newest_messages (x ∷ applied)) ++ given_from (suc index) (x ∷ applied) xs

abbrev pub given : List Record → List Record → List Tagged
given applied xs = given_from 0 applied xs
