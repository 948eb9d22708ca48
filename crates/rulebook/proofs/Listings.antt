-- Names, and which of them are listed today.
use Rattle.std.proofs.Common.{◌≡◌, ℕ, Bool, true, false, cond, List, [], ◌∷◌, ◌++◌, Option, Some, None, is_some, refl, sym, ap, subst, ◌∙◌, true≢false}
use Rattle.std.specs.Prelude.{◌||◌}
use Rattle.std.specs.List.{list_any}
use Rattle.std.specs.Option.{option_map_or}
use Rattle.std.specs.Str.{bytes_eq}
use Rattle.std.proofs.lemmas.Bool.{false≢true}
use Rattle.std.proofs.lemmas.List.Quantifiers.{position-Some}
use Rattle.std.proofs.lemmas.Option.{slice_get-get_or}
use Rattle.std.proofs.lemmas.Slice.Eq.{bytes_eq-Decides}
use Rattle.wire_in.specs.declared.record.Record.{Record}
use Rattle.wire_in.proofs.RecordKinds.{by_listing}
use Rattle.rulebook.specs.Admission.{names, is_among, with_name, is_listed_name, is_listed, id_of}
use Rattle.rulebook.proofs.OtherRecords.{leaves}
use Rattle.rulebook.proofs.Positions.{is_some-position}

pub same_name : (a b : List ℕ) → bytes_eq a b ≡ true → a ≡ b
same_name a b e = (bytes_eq-Decides a b).0 e

pub own_name : (a : List ℕ) → bytes_eq a a ≡ true
own_name a = (bytes_eq-Decides a a).1 refl

pub list_any-append : {X : Type 0} (p : X → Bool) (xs ys : List X) → list_any p (xs ++ ys) ≡ (list_any p xs || list_any p ys)
list_any-append p [] ys = refl
list_any-append p (x ∷ xs) ys = by (p x) (list_any-append p xs ys) where
  by : (b : Bool) → list_any p (xs ++ ys) ≡ (list_any p xs || list_any p ys) → (b || list_any p (xs ++ ys)) ≡ ((b || list_any p xs) || list_any p ys)
  by true rest = refl
  by false rest = rest

-- a name is among the names after it is listed
pub among_own : (ns : List (List ℕ)) (name : List ℕ) → is_among (with_name ns name) name ≡ true
among_own ns name = by (is_among ns name) refl where
  by : (b : Bool) → is_among ns name ≡ b → is_among (cond b ns (ns ++ name ∷ [])) name ≡ true
  by true e = e
  by false e = list_any-append (bytes_eq name) ns (name ∷ []) ∙ ap (λ b. b || (bytes_eq name name || false)) e ∙ ap (λ b. b || false) (own_name name)

-- and so is each that was among them
pub among_more : (ns : List (List ℕ)) (name other : List ℕ) → is_among ns other ≡ true → is_among (with_name ns name) other ≡ true
among_more ns name other there = by (is_among ns name) where
  by : (b : Bool) → is_among (cond b ns (ns ++ name ∷ [])) other ≡ true
  by true = there
  by false = list_any-append (bytes_eq other) ns (name ∷ []) ∙ ap (λ b. b || list_any (bytes_eq other) (name ∷ [])) there

-- a name that is listed today was ever listed
pub ever_listed : (A : List Record) (name : List ℕ) → is_listed_name A name ≡ true → is_among (names A) name ≡ true
ever_listed [] name h = absurd (false≢true h)
ever_listed (x ∷ A) name h =
    by_listing (λ y. is_listed_name (y ∷ A) name ≡ true → is_among (names (y ∷ A)) name ≡ true) (λ t d c e. absurd (false≢true e))
    (λ t n k l c e. by n (bytes_eq n name) refl e (ever_listed A name))
    (λ y o e.
    let same = leaves y A o in
    ap (λ ns. is_among ns name) same.names_are ∙ ever_listed A name (sym (same.listed name) ∙ e)) x h
  where
    by : (n : List ℕ) (b : Bool) → bytes_eq n name ≡ b → cond b true (is_listed_name A name) ≡ true
        → (is_listed_name A name ≡ true → is_among (names A) name ≡ true) → is_among (with_name (names A) n) name ≡ true
    by n true e h rest = subst (λ q. is_among (with_name (names A) n) q ≡ true) (same_name n name e) (among_own (names A) n)
    by n false e h rest = among_more (names A) n name (rest h)

-- a name's id is listed today exactly where the name is
pub listed_by_id : (A : List Record) (name : List ℕ) → option_map_or (is_listed A) (id_of A name) false ≡ is_listed_name A name
listed_by_id A name = by (id_of A name) refl where
  unlisted : (b : Bool) → is_listed_name A name ≡ b → is_among (names A) name ≡ false → false ≡ b
  unlisted true e none = absurd (true≢false (sym (ever_listed A name e) ∙ none))
  unlisted false e none = refl

  by : (o : Option ℕ) → id_of A name ≡ o → option_map_or (is_listed A) o false ≡ is_listed_name A name
  by None e = unlisted (is_listed_name A name) refl (sym (is_some-position (bytes_eq name) (names A)) ∙ ap is_some e)
  by (Some i) e =
      let at = position-Some (bytes_eq name) (names A) i [] e in
      ap (λ o. option_map_or (is_listed_name A) o false) (slice_get-get_or (names A) i [] at.0) ∙ ap (is_listed_name A) (sym (same_name name _ at.1))
