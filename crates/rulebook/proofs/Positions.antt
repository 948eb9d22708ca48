-- A name has a position in a list exactly where it is among the names.
use Rattle.std.proofs.Common.{◌≡◌, ℕ, ◌+◌, Bool, true, false, cond, List, [], ◌∷◌, Some, is_some, refl, ap, ◌∙◌}
use Rattle.std.specs.Prelude.{◌||◌}
use Rattle.std.specs.List.{list_any, position, position_from}
use Rattle.std.proofs.lemmas.Iterator.Adapters.{position_from-zero}

-- a position is found exactly where some element passes
pub is_some-position_from : {X : Type 0} (p : X → Bool) (i : ℕ) (xs : List X) → is_some (position_from p i xs) ≡ list_any p xs
is_some-position_from p i [] = refl
is_some-position_from p i (x ∷ xs) = by (p x) (is_some-position_from p (i + 1) xs) where
  by : (b : Bool) → is_some (position_from p (i + 1) xs) ≡ list_any p xs → is_some (cond b (Some i) (position_from p (i + 1) xs)) ≡ (b || list_any p xs)
  by true rest = refl
  by false rest = rest

pub is_some-position : {X : Type 0} (p : X → Bool) (xs : List X) → is_some (position p xs) ≡ list_any p xs
is_some-position p xs = ap is_some (position_from-zero p xs) ∙ is_some-position_from p 0 xs
