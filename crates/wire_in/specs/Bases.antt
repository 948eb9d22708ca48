-- Bases: what a list of records that ends with a day leaves to the records behind it, and how it is spelled.
use Rattle.std.specs.Prelude.{◌≡◌, ℕ, ◌+◌, ◌*◌, ◌<◌, ◌≤◌, ◌^◌, true, false, IsTrue, List, [], ◌∷◌, ◌++◌, All, length, take, drop, slice_index}
use Rattle.std.specs.List.{flat_map, list_any}
use Rattle.std.specs.Int.{w16, w64, to_be_bytes}
use Rattle.std.specs.Str.{bytes_eq}
use Rattle.wire_core.specs.Fields.{number}
use Rattle.wire_core.specs.Frames.{framed}
use Rattle.wire_core.specs.Names.{is_name}
use Rattle.wire_in.specs.declared.record.Record.{Record}
use Rattle.wire_in.specs.declared.base.Base.{Base}
use Rattle.wire_in.specs.Laws.{IsSound}
use Rattle.wire_in.specs.Records.{is_day}
use Rattle.wire_in.specs.Spelling.{Spells, body_of}

-- a name that a listing may have
abbrev pub IsListed : List ℕ → Type 0
IsListed name = (length name ≡ 8) × IsTrue (is_name name)

-- none of these names is among those before it, nor among these
abbrev pub AreNew : List (List ℕ) → List (List ℕ) → Type 0
AreNew before [] = Unit {0}
AreNew before (name ∷ later) = (list_any (bytes_eq name) before ≡ false) × AreNew (before ++ name ∷ []) later

-- each number is greater than those before it
abbrev pub AreRising : List ℕ → Type 0
AreRising [] = Unit {0}
AreRising (s ∷ later) = All (λ t. s < t) later × AreRising later

-- A base in its ranges. A record gives at most 262,146 messages: two of the market, and 16 of each of 16,384 symbols.
pub record IsInRange (b : Base) : Type 0 where
  pub some : 1 ≤ b.records
  pub records_are : b.records ≤ 2000000000
  pub messages_are : b.messages ≤ 262146 * b.records
  pub begins : is_day b.day ≡ true
  pub few : length b.names ≤ 16384
  pub different : AreNew [] b.names
  pub are_names : All IsListed b.names
  pub rising : AreRising b.carried
  pub below : All (λ s. s < length b.names) b.carried

-- the numbers of a base are in their ranges
pub record HasFew (b : Base) : Type 0 where
  pub some : 1 ≤ b.records
  pub records_are : b.records ≤ 2000000000
  pub messages_are : b.messages ≤ 262146 * b.records
  pub few : length b.names ≤ 16384

-- a base is in its ranges, but for its day, and for names that stand there twice
pub record IsNearlyInRange (b : Base) : Type 0 where
  pub few : HasFew b
  pub are_names : All IsListed b.names
  pub rising : AreRising b.carried
  pub below : All (λ s. s < length b.names) b.carried

-- the two numbers, the frame of the day, and the names and the carried ids, each behind their number
abbrev pub base_bytes : Base → List ℕ
base_bytes b =
    to_be_bytes w64 b.records
    ++ (to_be_bytes w64 b.messages
    ++ (framed (body_of b.day)
    ++ (to_be_bytes w16 (length b.names) ++ (flat_map (λ name. name) b.names ++ (to_be_bytes w16 (length b.carried) ++ flat_map (to_be_bytes w16) b.carried)))))

-- a body spells a base
pub record SpellsBase (body : List ℕ) (b : Base) : Type 0 where
  pub ranges : IsInRange b
  pub sound : IsSound b.day
  pub bytes : body ≡ base_bytes b

-- a base is the one base of its body
abbrev pub BaseIsAlone : Type 0
BaseIsAlone = (body : List ℕ) (b c : Base) → SpellsBase body b → SpellsBase body c → b ≡ c

-- a body has the form of a spelling, whether or not the base is in its ranges
pub record HasForm (body : List ℕ) (b : Base) : Type 0 where
  pub records_fit : b.records < 2 ^ 64
  pub messages_fit : b.messages < 2 ^ 64
  pub begins : is_day b.day ≡ true
  pub sound : IsSound b.day
  pub names_fit : length b.names < 2 ^ 16
  pub sizes : All (λ name. length name ≡ 8) b.names
  pub carried_fit : length b.carried < 2 ^ 16
  pub ids_fit : All (λ s. s < 2 ^ 16) b.carried
  pub bytes : body ≡ base_bytes b

-- the body says that it has so many names, and has the length that its two numbers say
pub record HasNames (count : ℕ) (body : List ℕ) : Type 0 where
  pub says : number w16 36 body ≡ count
  pub room : 40 + 8 * count ≤ length body
  pub len : length body ≡ 40 + 8 * count + 2 * number w16 (38 + 8 * count) body

-- the frame of this day stands in the body
pub record HasDay (x : Record) (body : List ℕ) : Type 0 where
  pub begins : is_day x ≡ true
  pub len : slice_index body 16 ≡ 19
  pub spelled : Spells (take 19 (drop 17 body)) x
