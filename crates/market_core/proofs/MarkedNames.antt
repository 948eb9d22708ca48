-- One mark in a list of tests, at the index of a name.
use Rattle.std.proofs.Common.{◌≡◌, ℕ, zero, suc, ◌+◌, ◌≤◌, Bool, true, false, cond, List, [], ◌∷◌, map, Some, refl, sym, ap, ◌∙◌, true≢false, arith}
use Rattle.std.specs.Prelude.{◌||◌, slice_set, position}
use Rattle.std.specs.List.{list_any, position_from}
use Rattle.std.proofs.lemmas.Iterator.Adapters.{position_from-zero}
use Rattle.rulebook.proofs.Ids.{AtMostOne}

-- true where an element passes, and else the other test
abbrev pub marked : {X : Type 0} → (X → Bool) → (X → Bool) → X → Bool
marked p other x = cond (p x) true (other x)

-- where none passes nothing is marked
pub map-marked_none : {X : Type 0} (p other : X → Bool) (xs : List X) → list_any p xs ≡ false → map (marked p other) xs ≡ map other xs
map-marked_none p other [] none = refl
map-marked_none p other (x ∷ xs) none = by (p x) none (map-marked_none p other xs) where
  by : (b : Bool) → (b || list_any p xs) ≡ false → (list_any p xs ≡ false → map (marked p other) xs ≡ map other xs)
      → (cond b true (other x) ∷ map (marked p other) xs) ≡ (other x ∷ map other xs)
  by true e rest = absurd (true≢false e)
  by false e rest = ap (λ bs. other x ∷ bs) (rest e)

not_before : {X : Type 0} (p : X → Bool) (j n : ℕ) (xs : List X) → position_from p j xs ≡ Some n → j ≤ n
not_before p j n [] e = absurd cc
not_before p j n (x ∷ xs) e = by (p x) e (not_before p (j + 1) n xs) where
  by : (b : Bool) → cond b (Some j) (position_from p (j + 1) xs) ≡ Some n → (position_from p (j + 1) xs ≡ Some n → j + 1 ≤ n) → j ≤ n
  by true e rest = let same : j ≡ n = cc in omega arith
  by false e rest = let later = rest e in omega arith

map-marked_from : {X : Type 0} (p other : X → Bool) (j i : ℕ) (xs : List X) → AtMostOne p xs → position_from p j xs ≡ Some (j + i)
    → map (marked p other) xs ≡ slice_set (map other xs) i true
map-marked_from p other j i [] one e = absurd cc
map-marked_from p other j zero (x ∷ xs) one e = by (p x) refl e where
  by : (b : Bool) → p x ≡ b → cond b (Some j) (position_from p (j + 1) xs) ≡ Some (j + zero) → (cond b true (other x) ∷ map (marked p other) xs) ≡ (true ∷ map other xs)
  by true here e = ap (λ bs. true ∷ bs) (map-marked_none p other xs (one.0 here))
  by false here e = absurd (let later = not_before p (j + 1) (j + zero) xs e in omega arith)
map-marked_from p other j (suc i) (x ∷ xs) one e = by (p x) refl e (map-marked_from p other (j + 1) i xs one.1) where
  by : (b : Bool) → p x ≡ b → cond b (Some j) (position_from p (j + 1) xs) ≡ Some (j + suc i)
      → (position_from p (j + 1) xs ≡ Some ((j + 1) + i) → map (marked p other) xs ≡ slice_set (map other xs) i true)
      → (cond b true (other x) ∷ map (marked p other) xs) ≡ (other x ∷ slice_set (map other xs) i true)
  by true here e rest = absurd (let same : j ≡ j + suc i = cc in omega arith)
  by false here e rest = ap (λ bs. other x ∷ bs) (rest (e ∙ ap (λ (n : ℕ). Some n) (omega arith)))

-- a mark at the index of the one that passes
pub map-marked : {X : Type 0} (p other : X → Bool) (xs : List X) (i : ℕ) → AtMostOne p xs → position p xs ≡ Some i → map (marked p other) xs ≡ slice_set (map other xs) i true
map-marked p other xs i one e = map-marked_from p other 0 i xs one (sym (position_from-zero p xs) ∙ e ∙ ap (λ (n : ℕ). Some n) (omega arith))
