-- Parts that are worked one after the other: one more behind those that were worked.
use Rattle.std.proofs.Common.{◌≡◌, ℕ, zero, suc, ◌+◌, ◌<◌, ◌≤◌, Bool, true, false, List, [], ◌∷◌, length, drop, get_or, Option, Some, None, refl, sym, ap, subst, ◌∙◌, add-one, true≢false, arith}
use Rattle.std.specs.Prelude.{IsSome, is_some, map, nat_le, slice_get, slice_set, ◌==◌, ◌||◌}
use Rattle.std.proofs.lemmas.Bool.Decides.{nat_tests}
use Rattle.std.proofs.lemmas.Option.{slice_get-get_or, slice_get_within}
use Rattle.rulebook.specs.Admission.{most_names}
use Rattle.wire_in.specs.declared.record.Record.{Record}
use Rattle.wire_in.specs.Records.{is_day}
use Rattle.market_core.specs.declared.lead.Today.{Today}
use Rattle.market_core.specs.Sections.{SectionState}
use Rattle.market_core.proofs.Appending.{get-set_other, get-set_same}
use Rattle.merge_core.specs.declared.tagged.Tagged.{Tagged}
use Rattle.shard_core.specs.Parts.{Note}
use Rattle.shard_core.specs.Turns.{AreFew, PartTells, PartsTell, Tells, first_id, is_begun}

-- a day has begun

or-true : (b : Bool) → (b || true) ≡ true
or-true true = refl
or-true false = refl

pub begun_on : (xs : List Record) (today : Option Today) → IsSome today → is_begun xs today ≡ true
begun_on [] today some = refl
begun_on (x ∷ xs) None some = absurd (true≢false (sym some))
begun_on (x ∷ xs) (Some t) some = or-true (is_day x)

some_by : (b : Bool) (today : Option Today) → (b || is_some today) ≡ true → b ≡ false → IsSome today
some_by true today e other = absurd (true≢false other)
some_by false today e other = e

pub begun_at : (i : ℕ) (xs : List Record) (x : Record) (today : Option Today) → i < length xs → x ≡ get_or xs i x → is_begun (drop i xs) today ≡ true → is_day x ≡ false → IsSome today
begun_at i [] x today lt at begun other = absurd (omega arith)
begun_at zero (y ∷ xs) x today lt at begun other = some_by (is_day y) today begun (ap is_day (sym at) ∙ other)
begun_at (suc i) (y ∷ xs) x today lt at begun other = begun_at i xs x today (omega arith) at begun other

-- one more part

at_least : (a b : ℕ) → nat_le a b ≡ true → a ≤ b
at_least a b e = grind (arith, nat_tests)

less : (a b : ℕ) → nat_le a b ≡ false → b < a
less a b e = grind (arith, nat_tests)

is_last : (k n : ℕ) → k + 1 ≡ n → (k + 1 == n) ≡ true
is_last k n e = grind (arith, nat_tests)

is_inner : (k n : ℕ) → k + 1 < n → (k + 1 == n) ≡ false
is_inner k n lt = grind (arith, nat_tests)

pub map-set : {X Y : Type 0} (f : X → Y) (xs : List X) (k : ℕ) (v : X) → map f (slice_set xs k v) ≡ slice_set (map f xs) k (f v)
map-set f [] k v = refl
map-set f (x ∷ xs) zero v = refl
map-set f (x ∷ xs) (suc k) v = ap (λ (ys : List _). f x ∷ ys) (map-set f xs k v)

pub length-map_all : {X Y : Type 0} (f : X → Y) (xs : List X) → length (map f xs) ≡ length xs
length-map_all f [] = refl
length-map_all f (x ∷ xs) = ap suc (length-map_all f xs)

pub one_of : {X : Type 0} (o : Option X) (a b : X) → o ≡ Some a → o ≡ Some b → a ≡ b
one_of o a b is also =
    let both : Some a ≡ Some b = sym is ∙ also in
    cc

-- what a part of an index tells
pub part_tells : (k start : ℕ) (last : Bool) (notes : List Note) (olds : List SectionState) (was is : SectionState) (items : List Tagged) → start ≡ first_id olds k → last ≡ (k + 1 == length olds)
    → Tells start last notes was.symbols is.symbols items → PartTells 0 k notes olds was is items
part_tells k start last notes olds was is items starts lasts tells = record {
  inner = λ inside.
      subst (λ (n : ℕ). Tells n false notes was.symbols is.symbols items) (starts ∙ sym (omega arith))
      (subst (λ (b : Bool). Tells start b notes was.symbols is.symbols items) (lasts ∙ is_inner k (length olds) inside) tells);
  last = λ end.
      subst (λ (n : ℕ). Tells n true notes was.symbols is.symbols items) (starts ∙ sym (omega arith))
      (subst (λ (b : Bool). Tells start b notes was.symbols is.symbols items) (lasts ∙ is_last k (length olds) end) tells);
}

pub one_worked : (k start : ℕ) (last : Bool) (notes : List Note) (olds now : List SectionState) (told : List (List Tagged)) (d is : SectionState) (items : List Tagged) → k < length olds → length now ≡ length olds
    → length told ≡ length olds → ((j : ℕ) → k ≤ j → slice_get now j ≡ slice_get olds j) → start ≡ first_id olds k → last ≡ (k + 1 == length olds)
    → Tells start last notes (get_or now k d).symbols is.symbols items → PartsTell 0 k notes olds now told → PartsTell 0 (k + 1) notes olds (slice_set now k is) (slice_set told k items)
one_worked k start last notes olds now told d is items lt as_many each later starts lasts tells before = λ j was own said below found left says. by j was own said below found left says (nat_le k j) refl where
  at : slice_get olds k ≡ Some (get_or now k d)
  at = sym (later k (omega arith)) ∙ slice_get-get_or now k d (omega (arith, as_many))

  here : PartTells 0 k notes olds (get_or now k d) is items
  here = part_tells k start last notes olds (get_or now k d) is items starts lasts tells

  by : (j : ℕ) (was own : SectionState) (said : List Tagged) → j < k + 1 → slice_get olds j ≡ Some was → slice_get (slice_set now k is) j ≡ Some own → slice_get (slice_set told k items) j ≡ Some said
      → (b : Bool) → nat_le k j ≡ b → ∥ PartTells 0 j notes olds was own said ∥₁
  by j was own said below found left says false e =
      let lower : j < k = less k j e in
      before j was own said lower found (sym (get-set_other now k is j (omega arith)) ∙ left) (sym (get-set_other told k items j (omega arith)) ∙ says)
  by j was own said below found left says true e =
      let from : k ≤ j = at_least k j e in
      let same : j ≡ k = omega (arith, below) in
      let was_is : get_or now k d ≡ was = one_of (slice_get olds k) (get_or now k d) was at (ap (slice_get olds) (sym same) ∙ found) in
      let own_is : is ≡ own = one_of (slice_get (slice_set now k is) k) is own (get-set_same now k is (omega (arith, as_many))) (ap (slice_get (slice_set now k is)) (sym same) ∙ left) in
      let said_is : items ≡ said = one_of (slice_get (slice_set told k items) k) items said (get-set_same told k items (omega (arith, each))) (ap (slice_get (slice_set told k items)) (sym same) ∙ says) in
      ∣ subst (λ (n : ℕ). PartTells 0 n notes olds was own said) (sym same)
      (subst (λ (w : SectionState). PartTells 0 k notes olds w own said) was_is
      (subst (λ (o : SectionState). PartTells 0 k notes olds (get_or now k d) o said) own_is (subst (λ (ms : List Tagged). PartTells 0 k notes olds (get_or now k d) is ms) said_is here))) ∣₁

pub others_stay : (k : ℕ) (olds now : List SectionState) (is : SectionState) → ((j : ℕ) → k ≤ j → slice_get now j ≡ slice_get olds j) → (j : ℕ) → k + 1 ≤ j → slice_get (slice_set now k is) j ≡ slice_get olds j
others_stay k olds now is later j le = get-set_other now k is j (omega arith) ∙ later j (omega arith)

length-set_all : {X : Type 0} (xs : List X) (i : ℕ) (v : X) → length (slice_set xs i v) ≡ length xs
length-set_all [] i v = refl
length-set_all (x ∷ xs) zero v = refl
length-set_all (x ∷ xs) (suc i) v = ap suc (length-set_all xs i v)

pub few_on : (k : ℕ) (now : List SectionState) (is : SectionState) → AreFew now → length is.symbols ≤ most_names → AreFew (slice_set now k is)
few_on k now is few own = λ j part found. by j part found (nat_le k j) refl (nat_le j k) refl where
  by : (j : ℕ) (part : SectionState) → slice_get (slice_set now k is) j ≡ Some part → (from : Bool) → nat_le k j ≡ from → (to : Bool) → nat_le j k ≡ to → length part.symbols ≤ most_names
  by j part found false e to f = let lower : j < k = less k j e in few j part (sym (get-set_other now k is j (omega arith)) ∙ found)
  by j part found true e false f = let higher : k < j = less j k f in few j part (sym (get-set_other now k is j (omega arith)) ∙ found)
  by j part found true e true f =
      let from : k ≤ j = at_least k j e in
      let to : j ≤ k = at_least j k f in
      let same : j ≡ k = omega arith in
      let there : slice_get (slice_set now k is) k ≡ Some part = ap (slice_get (slice_set now k is)) (sym same) ∙ found in
      let within : k < length (slice_set now k is) = slice_get_within (slice_set now k is) k part there in
      subst (λ (p : SectionState). length p.symbols ≤ most_names) (one_of (slice_get (slice_set now k is) k) is part (get-set_same now k is (omega (arith, within, length-set_all now k is))) there) own

-- where the next part starts
next_suc : (olds : List SectionState) (k : ℕ) (d : SectionState) → k < length olds → first_id olds (suc k) ≡ first_id olds k + length (get_or olds k d).symbols
next_suc [] k d lt = absurd (omega arith)
next_suc (p ∷ olds) zero d lt = omega arith
next_suc (p ∷ olds) (suc k) d lt =
    let rest : first_id olds (suc k) ≡ first_id olds k + length (get_or olds k d).symbols = next_suc olds k d (omega arith) in
    let moved : length p.symbols + (first_id olds k + length (get_or olds k d).symbols) ≡ (length p.symbols + first_id olds k) + length (get_or olds k d).symbols = omega arith in
    ap (λ (n : ℕ). length p.symbols + n) rest ∙ moved

pub next_id : (olds : List SectionState) (k : ℕ) (d : SectionState) → k < length olds → first_id olds (k + 1) ≡ first_id olds k + length (get_or olds k d).symbols
next_id olds k d lt = ap (first_id olds) (add-one k) ∙ next_suc olds k d lt

-- a part that was not worked yet is as it was
pub still : (k : ℕ) (olds now : List SectionState) (d : SectionState) → k < length olds → length now ≡ length olds → ((j : ℕ) → k ≤ j → slice_get now j ≡ slice_get olds j) → get_or now k d ≡ get_or olds k d
still k olds now d lt as_many later =
    one_of (slice_get olds k) (get_or now k d) (get_or olds k d) (sym (later k (omega arith)) ∙ slice_get-get_or now k d (omega (arith, as_many))) (slice_get-get_or olds k d lt)
