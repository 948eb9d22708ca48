-- What an admission keeps, and how it stands for the list of admitted records, the newest first.
use Rattle.std.specs.Prelude.{◌≡◌, ℕ, Bool, false, Option, Some, None, List, [], ◌∷◌, ◌++◌, ◌+◌, ◌≤◌, nat_lt, nat_le, if◌then◌else◌, not, ◌&&◌, length, is_none, position, slice_get, slice_set, map}
use Rattle.std.specs.List.{All}
use Rattle.std.specs.Option.{option_map_or}
use Rattle.std.specs.Str.{bytes_eq}
use Rattle.session_core.specs.declared.day.Day.{Day}
use Rattle.session_core.specs.Dates.{date_number}
use Rattle.wire_in.specs.declared.record.Record.{Record}
use Rattle.wire_in.specs.declared.record.Record.TheVariants as in_
use Rattle.wire_in.specs.declared.record.Refusal.{Refusal}
use Rattle.wire_in.specs.declared.record.Refusal.TheVariants.{NoDay, OutOfOrder, UnknownSymbol, AlreadyListed, DirectoryFull, JournalFull}
use Rattle.wire_in.specs.Records.{moment_of, is_day, symbol_of}
use Rattle.rulebook.specs.Admission.{last_day, names, is_listed_name, most_names}

-- The capacity of records, how many were admitted, the last day and the number of the record that began it, the moment of
-- the last record, the names ever listed, and for each of them the number of the record that last listed it. Records are
-- numbered from 1 on; where none is known the number is 0.
pub record AdmissionState : Type 0 where
  pub capacity : ℕ
  pub count : ℕ
  pub day : Option Day
  pub begun : ℕ
  pub last : ℕ
  pub directory : List (List ℕ)
  pub listed : List ℕ

-- the moment of the newest record, 0 where there is none
abbrev pub last_moment : List Record → ℕ
last_moment [] = 0
last_moment (x ∷ earlier) = moment_of x

-- Each kept value but the count is the one that the list of admitted records gives, and no number is above the count. A name
-- is listed today where the record that last listed it came after the one that began the day.
pub record Stands (a : AdmissionState) (admitted : List Record) : Type 0 where
  pub day : a.day ≡ last_day admitted
  pub last : a.last ≡ last_moment admitted
  pub directory : a.directory ≡ names admitted
  pub listed : map (nat_lt a.begun) a.listed ≡ map (is_listed_name admitted) (names admitted)
  pub begun : a.begun ≤ a.count
  pub numbers : All (λ number. number ≤ a.count) a.listed

-- and they are as many as it counts
pub record Represents (a : AdmissionState) (admitted : List Record) : Type 0 where
  pub count : a.count ≡ length admitted
  pub stands : Stands a admitted

-- The tests of a refusal, by what is kept.

abbrev pub is_before_day : Option Day → Record → Bool
is_before_day day x = not (is_day x) && is_none day

abbrev pub is_date_early : Option Day → Day → Bool
is_date_early day d = option_map_or (λ last. nat_le (date_number d.date) (date_number last.date)) day false

abbrev pub is_out_of_order : Option Day → ℕ → Record → Bool
is_out_of_order day last (in_.Day t d c) = is_date_early day d
is_out_of_order day last x = nat_lt (moment_of x) last

abbrev pub is_listed_id : ℕ → List ℕ → ℕ → Bool
is_listed_id begun listed id = option_map_or (nat_lt begun) (slice_get listed id) false

abbrev pub names_unlisted : ℕ → List ℕ → Record → Bool
names_unlisted begun listed x = option_map_or (λ id. not (is_listed_id begun listed id)) (symbol_of x) false

abbrev pub lists_twice : ℕ → List ℕ → List (List ℕ) → Record → Bool
lists_twice begun listed directory (in_.Listing t name k l c) = option_map_or (is_listed_id begun listed) (position (bytes_eq name) directory) false
lists_twice begun listed directory x = false

abbrev pub is_full_for : List (List ℕ) → List ℕ → Bool
is_full_for directory name = is_none (position (bytes_eq name) directory) && nat_le most_names (length directory)

abbrev pub lacks_room : List (List ℕ) → Record → Bool
lacks_room directory (in_.Listing t name k l c) = is_full_for directory name
lacks_room directory x = false

-- why the name of a listing is refused
abbrev pub name_refusal_of : AdmissionState → Record → Option Refusal
name_refusal_of a x =
    if lists_twice a.begun a.listed a.directory x then Some AlreadyListed
    else if lacks_room a.directory x then Some DirectoryFull
    else None

-- the first refusal that applies
abbrev pub refusal_of : AdmissionState → Record → Option Refusal
refusal_of a x =
    if is_before_day a.day x then Some NoDay
    else if is_out_of_order a.day a.last x then Some OutOfOrder
    else if names_unlisted a.begun a.listed x then Some UnknownSymbol
    else if lists_twice a.begun a.listed a.directory x then Some AlreadyListed
    else if lacks_room a.directory x then Some DirectoryFull
    else if nat_le a.capacity a.count then Some JournalFull
    else None

-- the same of a record of a symbol, by its moment and its id
abbrev pub symbol_refusal_of : AdmissionState → ℕ → ℕ → Option Refusal
symbol_refusal_of a moment id =
    if is_none a.day then Some NoDay
    else if nat_lt moment a.last then Some OutOfOrder
    else if not (is_listed_id a.begun a.listed id) then Some UnknownSymbol
    else if nat_le a.capacity a.count then Some JournalFull
    else None

-- What is kept after one more record.

abbrev pub day_after : Option Day → Record → Option Day
day_after day (in_.Day t d c) = Some d
day_after day x = day

abbrev pub begun_after : AdmissionState → Record → ℕ
begun_after a (in_.Day t d c) = a.count + 1
begun_after a x = a.begun

-- what is appended for a name that isn't among these: nothing where it is
abbrev pub added : {X : Type 0} → List X → Option ℕ → X → List X
added xs None x = xs ++ x ∷ []
added xs (Some index) x = xs

-- with this at an index, or appended where there is none
abbrev pub set_at : {X : Type 0} → List X → Option ℕ → X → List X
set_at xs None x = xs ++ x ∷ []
set_at xs (Some index) x = slice_set xs index x

abbrev pub directory_after : List (List ℕ) → Record → List (List ℕ)
directory_after directory (in_.Listing t name k l c) = added directory (position (bytes_eq name) directory) name
directory_after directory x = directory

abbrev pub listed_after : AdmissionState → Record → List ℕ
listed_after a (in_.Listing t name k l c) = set_at a.listed (position (bytes_eq name) a.directory) (a.count + 1)
listed_after a x = a.listed

abbrev pub admitted_with : AdmissionState → Record → AdmissionState
admitted_with a x = record {
  capacity = a.capacity;
  count = a.count + 1;
  day = day_after a.day x;
  begun = begun_after a x;
  last = moment_of x;
  directory = directory_after a.directory x;
  listed = listed_after a x;
}
