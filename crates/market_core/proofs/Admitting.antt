-- An admission that stands for a list stands for the list with one more record.
use Rattle.std.proofs.Common.{◌≡◌, ℕ, ◌+◌, ◌≤◌, true, false, cond, List, [], ◌∷◌, ◌++◌, length, map, get_or, Option, Some, None, is_some, refl, sym, ap, subst, ◌∙◌, arith}
use Rattle.std.specs.Prelude.{slice_set, position, nat_lt}
use Rattle.std.specs.List.{All, list_any}
use Rattle.std.specs.Str.{bytes_eq}
use Rattle.std.proofs.lemmas.Bool.Decides.{nat_tests}
use Rattle.std.proofs.lemmas.List.{length-map, map-append, map-set}
use Rattle.std.proofs.lemmas.List.Elements.{All-head, All-push, All-set, All-tail}
use Rattle.price_core.specs.declared.quote.Tier.{Tier}
use Rattle.session_core.specs.declared.day.Day.{Day}
use Rattle.wire_in.specs.declared.record.Record.{Record}
use Rattle.wire_in.specs.declared.record.Record.TheVariants as in_
use Rattle.wire_in.specs.Records.{moment_of}
use Rattle.rulebook.specs.Admission.{names, is_listed_name, with_name}
use Rattle.market_core.specs.AdmissionState.{AdmissionState, Stands, added, set_at, day_after, begun_after, directory_after, listed_after, admitted_with}
use Rattle.rulebook.proofs.Listings.{own_name}
use Rattle.rulebook.proofs.Positions.{is_some-position}
use Rattle.rulebook.proofs.Ids.{one_place}
use Rattle.market_core.proofs.MarkedNames.{marked, map-marked, map-marked_none}

pub map-constant : {X Y Z : Type 0} (z : Z) (xs : List X) (ys : List Y) → length xs ≡ length ys → map (λ _. z) xs ≡ map (λ _. z) ys
map-constant z [] [] e = refl
map-constant z [] (y ∷ ys) e = absurd (omega arith)
map-constant z (x ∷ xs) [] e = absurd (omega arith)
map-constant z (x ∷ xs) (y ∷ ys) e = ap (λ zs. z ∷ zs) (map-constant z xs ys (omega arith))

abbrev UpTo : ℕ → ℕ → Type 0
UpTo count number = number ≤ count

-- A day: no name was listed by a record after it.
none_after : (count : ℕ) (listed : List ℕ) → All (UpTo count) listed → map (nat_lt (count + 1)) listed ≡ map (λ _. false) listed
none_after count [] past = refl
none_after count (number ∷ listed) past = λ i. not_after number (All-head (UpTo count) number listed past) i ∷ none_after count listed (All-tail (UpTo count) number listed past) i where
  not_after : (number : ℕ) → number ≤ count → nat_lt (count + 1) number ≡ false
  not_after number le = grind (arith, nat_tests)

one_more : (count : ℕ) (listed : List ℕ) → All (UpTo count) listed → All (UpTo (count + 1)) listed
one_more count listed past = λ i default within. let le : get_or listed i default ≤ count = past i default within in omega (arith, le)

-- A listing: the record comes after the one that began the day, and what the other names have stays.

-- the numbers after a listing show the name as listed, and the others as before
numbers_show : (begun number : ℕ) (listed : List ℕ) (A : List Record) (name : List ℕ) (index : Option ℕ) → position (bytes_eq name) (names A) ≡ index
    → nat_lt begun number ≡ true → map (nat_lt begun) listed ≡ map (is_listed_name A) (names A)
    → map (nat_lt begun) (set_at listed index number) ≡ map (marked (bytes_eq name) (is_listed_name A)) (added (names A) index name)
numbers_show begun number listed A name None e after same =
    let none : list_any (bytes_eq name) (names A) ≡ false = sym (is_some-position (bytes_eq name) (names A)) ∙ ap is_some e in
    map-append (nat_lt begun) listed (number ∷ [])
    ∙ ap (λ bs. bs ++ nat_lt begun number ∷ []) (same ∙ sym (map-marked_none (bytes_eq name) (is_listed_name A) (names A) none))
    ∙ ap (λ b. map (marked (bytes_eq name) (is_listed_name A)) (names A) ++ b ∷ []) (after ∙ sym (ap (λ b. cond b true (is_listed_name A name)) (own_name name)))
    ∙ sym (map-append (marked (bytes_eq name) (is_listed_name A)) (names A) (name ∷ []))
numbers_show begun number listed A name (Some i) e after same =
    map-set (nat_lt begun) listed i number
    ∙ ap (λ bs. slice_set bs i (nat_lt begun number)) same
    ∙ ap (λ b. slice_set (map (is_listed_name A) (names A)) i b) after
    ∙ sym (map-marked (bytes_eq name) (is_listed_name A) (names A) i (one_place A name) e)

-- a name after the listed ones is added where it has no index among them
pub added_name : (ns : List (List ℕ)) (name : List ℕ) (index : Option ℕ) → position (bytes_eq name) ns ≡ index → added ns index name ≡ with_name ns name
added_name ns name None e = ap (λ b. cond b ns (ns ++ name ∷ [])) (sym (sym (is_some-position (bytes_eq name) ns) ∙ ap is_some e))
added_name ns name (Some i) e = ap (λ b. cond b ns (ns ++ name ∷ [])) (sym (sym (is_some-position (bytes_eq name) ns) ∙ ap is_some e))

set_up_to : (count : ℕ) (listed : List ℕ) (index : Option ℕ) → All (UpTo count) listed → All (UpTo (count + 1)) (set_at listed index (count + 1))
set_up_to count listed None past = All-push (UpTo (count + 1)) listed (count + 1) (one_more count listed past) (omega arith)
set_up_to count listed (Some i) past = All-set (UpTo (count + 1)) listed i (count + 1) (omega arith) (one_more count listed past)

listing_stands : (a : AdmissionState) (A : List Record) (t : ℕ) (name : List ℕ) (k : Tier) (l : ℕ) (c : Option ℕ)
    → Stands a A → Stands (admitted_with a (in_.Listing t name k l c)) (in_.Listing t name k l c ∷ A)
listing_stands a A t name k l c s =
    let index = position (bytes_eq name) (names A) in
    let known = added_name (names A) name index refl in
    record {
      day = s.day;
      last = refl;
      directory = ap (λ ns. added ns (position (bytes_eq name) ns) name) s.directory ∙ known;
      listed = ap (λ ns. map (nat_lt a.begun) (set_at a.listed (position (bytes_eq name) ns) (a.count + 1))) s.directory
          ∙ numbers_show a.begun (a.count + 1) a.listed A name index refl (is_after a.begun a.count s.begun) s.listed ∙ ap (map (marked (bytes_eq name) (is_listed_name A))) known;
      begun = omega (arith, s.begun);
      numbers = set_up_to a.count a.listed (position (bytes_eq name) a.directory) s.numbers;
    }
  where
    is_after : (begun count : ℕ) → begun ≤ count → nat_lt begun (count + 1) ≡ true
    is_after begun count le = grind (arith, nat_tests)

day_stands : (a : AdmissionState) (A : List Record) (t : ℕ) (day : Day) (close : ℕ) → Stands a A → Stands (admitted_with a (in_.Day t day close)) (in_.Day t day close ∷ A)
day_stands a A t day close s =
    let as_many : length a.listed ≡ length (names A) = sym (length-map a.listed (nat_lt a.begun)) ∙ ap length s.listed ∙ length-map (names A) (is_listed_name A) in
    record {
      day = refl;
      last = refl;
      directory = s.directory;
      listed = none_after a.count a.listed s.numbers ∙ map-constant false a.listed (names A) as_many;
      begun = omega arith;
      numbers = one_more a.count a.listed s.numbers;
    }

pub stands-admitted : (a : AdmissionState) (A : List Record) (x : Record) → Stands a A → Stands (admitted_with a x) (x ∷ A)
stands-admitted a A (in_.Day t d c) s = day_stands a A t d c s
stands-admitted a A (in_.Listing t name k l c) s = listing_stands a A t name k l c s
stands-admitted a A (in_.Trade t y n p q f) s = record { day = s.day; last = refl; directory = s.directory; listed = s.listed; begun = omega (arith, s.begun); numbers = one_more a.count a.listed s.numbers }
stands-admitted a A (in_.Cancel t y n) s = record { day = s.day; last = refl; directory = s.directory; listed = s.listed; begun = omega (arith, s.begun); numbers = one_more a.count a.listed s.numbers }
stands-admitted a A (in_.Quote t y b o u v) s = record { day = s.day; last = refl; directory = s.directory; listed = s.listed; begun = omega (arith, s.begun); numbers = one_more a.count a.listed s.numbers }
stands-admitted a A (in_.IndexTick t v) s = record { day = s.day; last = refl; directory = s.directory; listed = s.listed; begun = omega (arith, s.begun); numbers = one_more a.count a.listed s.numbers }
stands-admitted a A (in_.Clock t) s = record { day = s.day; last = refl; directory = s.directory; listed = s.listed; begun = omega (arith, s.begun); numbers = one_more a.count a.listed s.numbers }
stands-admitted a A (in_.Notice t y k) s = record { day = s.day; last = refl; directory = s.directory; listed = s.listed; begun = omega (arith, s.begun); numbers = one_more a.count a.listed s.numbers }
stands-admitted a A (in_.Indication t y p u) s = record { day = s.day; last = refl; directory = s.directory; listed = s.listed; begun = omega (arith, s.begun); numbers = one_more a.count a.listed s.numbers }

-- what is kept once the last moment is kept, and one more record is counted
abbrev counted : AdmissionState → ℕ → AdmissionState
counted a moment = record a { count = a.count + 1; last = moment }

pub counted_stands : (kept old : AdmissionState) (moment : ℕ) (A : List Record) (x : Record) → Stands old A
    → kept ≡ record old { day = day_after old.day x; begun = begun_after old x; directory = directory_after old.directory x; listed = listed_after old x }
    → moment ≡ moment_of x → Stands (counted kept moment) (x ∷ A)
counted_stands kept old moment A x s is at =
    subst (λ v. Stands v (x ∷ A)) (sym (λ i. counted (is i) (at i))) (stands-admitted old A x s)
