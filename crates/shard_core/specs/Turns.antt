-- What the market's part notes of a block, and what is said at each of its records.
use Rattle.std.specs.Prelude.{◌≡◌, ℕ, ◌+◌, ◌<◌, ◌≤◌, Bool, true, false, ◌||◌, suc, zero, Option, Some, None, List, [], ◌∷◌, ◌++◌, length, option_map, position, is_some, slice_get}
use Rattle.std.specs.Str.{bytes_eq}
use Rattle.wire_in.specs.declared.record.Record.{Record}
use Rattle.wire_in.specs.declared.record.Record.TheVariants as in_
use Rattle.wire_in.specs.Records.{is_day, moment_of}
use Rattle.wire_out.specs.declared.message.Stamped.{Stamped}
use Rattle.rulebook.specs.Admission.{most_names}
use Rattle.symbol_core.specs.Rests.{SymbolState}
use Rattle.market_core.specs.declared.lead.Today.{Today}
use Rattle.market_core.specs.Leads.{LeadState, led, rulings, today_led}
use Rattle.market_core.specs.Ruled.{stamped, view_of}
use Rattle.market_core.specs.Sections.{SectionState}
use Rattle.merge_core.specs.declared.tagged.Tagged.{Tagged}
use Rattle.shard_core.specs.declared.turns.Target.{Target}
use Rattle.shard_core.specs.declared.turns.Target.TheVariants.{Each, One, New}
use Rattle.shard_core.specs.declared.turns.Turn.{Turn}
use Rattle.shard_core.specs.Block.{tagged}
use Rattle.shard_core.specs.Parts.{Note, TakesAll}

-- whom a listing is for: the stock of its name, or a new one
abbrev pub target_at : Option ℕ → ℕ → Target
target_at (Some id) names = One id
target_at None names = New names

-- whom a record is for, where these names were listed before
abbrev pub target_of : Record → List (List ℕ) → Target
target_of (in_.Listing t n k l c) directory = target_at (position (bytes_eq n) directory) (length directory)
target_of (in_.Day t d c) directory = Each
target_of (in_.Clock t) directory = Each
target_of (in_.IndexTick t v) directory = Each
target_of (in_.Trade t s n p q f) directory = One s
target_of (in_.Cancel t s n) directory = One s
target_of (in_.Quote t s b o y z) directory = One s
target_of (in_.Notice t s k) directory = One s
target_of (in_.Indication t s p u) directory = One s

abbrev pub note_of : Record → Turn → Note
note_of x turn = record { record_of = x; view = turn.view; target = turn.target }

abbrev pub noted : List Record → List Turn → List Note
noted [] turns = []
noted (x ∷ xs) [] = []
noted (x ∷ xs) (turn ∷ turns) = note_of x turn ∷ noted xs turns

-- a day has begun, or the first of these records begins one
abbrev pub is_begun : List Record → Option Today → Bool
is_begun [] today = true
is_begun (x ∷ xs) today = is_day x || is_some today

-- a note is of what the market then is, and whom the record is for
pub record Leads (note : Note) (lead : LeadState) : Type 0 where
  pub seen : option_map view_of (today_led note.record_of lead.today) ≡ Some note.view
  pub for : note.target ≡ target_of note.record_of lead.directory

-- records are led, one after the other, and these are the market's messages at each
abbrev pub LeadsAll : List Note → LeadState → LeadState → List (List Stamped) → Type 0
LeadsAll [] lead last told = (last ≡ lead) × (told ≡ [])
LeadsAll (note ∷ notes) lead last told =
    (later : List (List Stamped)) × Leads note lead × LeadsAll notes (led note.record_of lead) last later × (told ≡ stamped (moment_of note.record_of) (rulings note.record_of lead.today) ∷ later)

-- the messages at each record, tagged from an index on
abbrev pub tagged_from : ℕ → List (List Stamped) → List Tagged
tagged_from index [] = []
tagged_from index (said ∷ later) = tagged index said ++ tagged_from (suc index) later

-- records are led, and this is what is noted and said
pub record LeadsTo (notes : List Note) (lead last : LeadState) (market : List Tagged) : Type 0 where
  pub told : List (List Stamped)
  pub leads : LeadsAll notes lead last told
  pub items : market ≡ tagged_from 0 told

-- the stocks of the ids from one on take records, and this is what is said
pub record Tells (start : ℕ) (last : Bool) (notes : List Note) (old new : List SymbolState) (items : List Tagged) : Type 0 where
  pub told : List (List Stamped)
  pub takes : TakesAll start last notes old new told
  pub items_are : items ≡ tagged_from 0 told

-- so many parts, each of no stocks
pub record AreEmpty (count : ℕ) (parts : List SectionState) : Type 0 where
  pub number : length parts ≡ count
  pub none : (k : ℕ) (part : SectionState) → slice_get parts k ≡ Some part → part.symbols ≡ []

-- no part has more stocks than there may be names
abbrev pub AreFew : List SectionState → Type 0
AreFew parts = (k : ℕ) (part : SectionState) → slice_get parts k ≡ Some part → length part.symbols ≤ most_names

-- the first id of a part
abbrev pub first_id : List SectionState → ℕ → ℕ
first_id parts zero = 0
first_id [] (suc k) = 0
first_id (part ∷ parts) (suc k) = length part.symbols + first_id parts k

-- a part takes records, of parts of which the first starts with an id
pub record PartTells (start k : ℕ) (notes : List Note) (parts : List SectionState) (was is : SectionState) (items : List Tagged) : Type 0 where
  pub inner : k + 1 < length parts → Tells (start + first_id parts k) false notes was.symbols is.symbols items
  pub last : k + 1 ≡ length parts → Tells (start + first_id parts k) true notes was.symbols is.symbols items

-- the parts below one take records
abbrev pub PartsTell : ℕ → ℕ → List Note → List SectionState → List SectionState → List (List Tagged) → Type 0
PartsTell start below notes old new told =
    (k : ℕ) (was is : SectionState) (items : List Tagged) → k < below → slice_get old k ≡ Some was → slice_get new k ≡ Some is → slice_get told k ≡ Some items → ∥ PartTells start k notes old was is items ∥₁
