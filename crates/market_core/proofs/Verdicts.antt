-- What an admission refuses by what it keeps is what the list of admitted records refuses.
use Rattle.std.proofs.Common.{◌≡◌, ℕ, Bool, false, cond, List, [], ◌∷◌, length, map, Option, Some, None, is_some, is_none, not, refl, sym, ap, ◌∙◌, arith}
use Rattle.std.specs.Prelude.{slice_get, position, nat_le, nat_lt, ◌&&◌, option_map}
use Rattle.std.specs.Option.{option_map_or}
use Rattle.std.specs.Str.{bytes_eq}
use Rattle.std.proofs.lemmas.Bool.Decides.{nat_tests}
use Rattle.std.proofs.lemmas.Option.{slice_get-map}
use Rattle.wire_in.specs.declared.record.Record.{Record}
use Rattle.wire_in.specs.declared.record.Record.TheVariants as in_
use Rattle.wire_in.specs.declared.record.Refusal.{Refusal}
use Rattle.wire_in.specs.declared.record.Refusal.TheVariants.{NoDay, OutOfOrder, UnknownSymbol, AlreadyListed, DirectoryFull, JournalFull}
use Rattle.wire_in.specs.Records.{symbol_of, is_day}
use Rattle.rulebook.specs.Admission.{verdict, verdict_at, names, most_names, last_day, is_listed_name, is_listed, is_early, is_unknown, lists_again, finds_no_id}
use Rattle.market_core.specs.AdmissionState.{AdmissionState, Represents, Stands, refusal_of, last_moment, is_out_of_order, is_listed_id, names_unlisted, lists_twice, lacks_room}
use Rattle.rulebook.proofs.Positions.{is_some-position}
use Rattle.rulebook.proofs.Listings.{listed_by_id}

option_map_or-option_map : {X Y : Type 0} (f : X → Y) (test : Y → Bool) (o : Option X) → option_map_or test (option_map f o) false ≡ option_map_or (λ x. test (f x)) o false
option_map_or-option_map f test None = refl
option_map_or-option_map f test (Some x) = refl

-- a test of the element at an index is the element at that index of the tests
tested : {X : Type 0} (f : X → Bool) (xs : List X) (i : ℕ) → option_map_or f (slice_get xs i) false ≡ option_map_or (λ b. b) (slice_get (map f xs) i) false
tested f xs i = sym (option_map_or-option_map f (λ b. b) (slice_get xs i)) ∙ ap (λ o. option_map_or (λ b. b) o false) (sym (slice_get-map f xs i))

listed_id : (begun : ℕ) (listed : List ℕ) (A : List Record) → map (nat_lt begun) listed ≡ map (is_listed_name A) (names A) → (id : ℕ) → is_listed_id begun listed id ≡ is_listed A id
listed_id begun listed A same id =
    tested (nat_lt begun) listed id ∙ ap (λ bs. option_map_or (λ b. b) (slice_get bs id) false) same ∙ sym (tested (is_listed_name A) (names A) id)

ap2 : {X Y Z : Type 0} (f : X → Y → Z) {a b : X} {c d : Y} → a ≡ b → c ≡ d → f a c ≡ f b d
ap2 f p q = λ i. f (p i) (q i)

out_of_order : (A : List Record) (x : Record) → is_out_of_order (last_day A) (last_moment A) x ≡ is_early A x
out_of_order A (in_.Day t d c) = refl
out_of_order [] x = grind (arith, nat_tests)
out_of_order (y ∷ A) x = refl

unlisted : (begun : ℕ) (listed : List ℕ) (A : List Record) → map (nat_lt begun) listed ≡ map (is_listed_name A) (names A)
    → (x : Record) → names_unlisted begun listed x ≡ is_unknown A x
unlisted begun listed A same x = by (symbol_of x) where
  by : (o : Option ℕ) → option_map_or (λ id. not (is_listed_id begun listed id)) o false ≡ option_map_or (λ id. not (is_listed A id)) o false
  by None = refl
  by (Some id) = ap not (listed_id begun listed A same id)

twice : (begun : ℕ) (listed : List ℕ) (A : List Record) → map (nat_lt begun) listed ≡ map (is_listed_name A) (names A)
    → (x : Record) → lists_twice begun listed (names A) x ≡ lists_again A x
twice begun listed A same (in_.Listing t name k l c) = by (position (bytes_eq name) (names A)) ∙ listed_by_id A name where
  by : (o : Option ℕ) → option_map_or (is_listed_id begun listed) o false ≡ option_map_or (is_listed A) o false
  by None = refl
  by (Some id) = listed_id begun listed A same id
twice begun listed A same (in_.Day t d c) = refl
twice begun listed A same (in_.Trade t s n p q f) = refl
twice begun listed A same (in_.Cancel t s n) = refl
twice begun listed A same (in_.Quote t s b o x y) = refl
twice begun listed A same (in_.IndexTick t v) = refl
twice begun listed A same (in_.Clock t) = refl
twice begun listed A same (in_.Notice t s k) = refl
twice begun listed A same (in_.Indication t s p u) = refl

is_none-is_some : {X : Type 0} (o : Option X) → is_none o ≡ not (is_some o)
is_none-is_some None = refl
is_none-is_some (Some x) = refl

pub no_room : (A : List Record) (x : Record) → lacks_room (names A) x ≡ finds_no_id A x
no_room A (in_.Listing t name k l c) =
    ap (λ b. b && nat_le most_names (length (names A))) (is_none-is_some (position (bytes_eq name) (names A)) ∙ ap not (is_some-position (bytes_eq name) (names A)))
no_room A (in_.Day t d c) = refl
no_room A (in_.Trade t s n p q f) = refl
no_room A (in_.Cancel t s n) = refl
no_room A (in_.Quote t s b o x y) = refl
no_room A (in_.IndexTick t v) = refl
no_room A (in_.Clock t) = refl
no_room A (in_.Notice t s k) = refl
no_room A (in_.Indication t s p u) = refl

-- the first of the refusals whose test holds
abbrev first_of : Bool → Bool → Bool → Bool → Bool → Bool → Option Refusal
first_of no_day out_of_order unknown again full capacity =
    cond no_day (Some NoDay) (cond out_of_order (Some OutOfOrder) (cond unknown (Some UnknownSymbol) (cond again (Some AlreadyListed) (cond full (Some DirectoryFull) (cond capacity (Some JournalFull) None)))))

pub refusal_of-stands : (a : AdmissionState) (A : List Record) (x : Record) → Stands a A → refusal_of a x ≡ verdict_at a.capacity a.count A x
refusal_of-stands a A x s =
    let early : is_out_of_order a.day a.last x ≡ is_early A x = ap2 (λ d l. is_out_of_order d l x) s.day s.last ∙ out_of_order A x in
    let again : lists_twice a.begun a.listed a.directory x ≡ lists_again A x = ap (λ d. lists_twice a.begun a.listed d x) s.directory ∙ twice a.begun a.listed A s.listed x in
    let room : lacks_room a.directory x ≡ finds_no_id A x = ap (λ d. lacks_room d x) s.directory ∙ no_room A x in
    let unknown : names_unlisted a.begun a.listed x ≡ is_unknown A x = unlisted a.begun a.listed A s.listed x in
    λ i. first_of (not (is_day x) && is_none (s.day i)) (early i) (unknown i) (again i) (room i) (nat_le a.capacity a.count)

pub refusal_of-represents : (a : AdmissionState) (A : List Record) (x : Record) → Represents a A → refusal_of a x ≡ verdict a.capacity A x
refusal_of-represents a A x r = refusal_of-stands a A x r.stands ∙ ap (λ (count : ℕ). verdict_at a.capacity count A x) r.count
