-- What is known where it is known.
use Rattle.std.proofs.Common.{◌≡◌, ℕ, List, [], ◌++◌, refl, ap, append_assoc}
use Rattle.std.proofs.lemmas.List.{append-nil}
use Rattle.std.specs.Prelude.{Option, Some, None, is_some, option_map}
use Rattle.std.specs.Io.KnownBytes.{append_known}

-- what a function makes of something known was made from something known
pub mapped : (f : List ℕ → List ℕ) (known : Option (List ℕ)) (y : List ℕ) → option_map f known ≡ Some y → (x : List ℕ) × (known ≡ Some x) × (f x ≡ y)
mapped f None y is = cc
mapped f (Some x) y is = (x, refl, cc)

pub append_known-nil : (known : Option (List ℕ)) → append_known known [] ≡ known
append_known-nil None = refl
append_known-nil (Some x) = ap Some (append-nil x)

pub append_known-append : (known : Option (List ℕ)) (a b : List ℕ) → append_known (append_known known a) b ≡ append_known known (a ++ b)
append_known-append None a b = refl
append_known-append (Some x) a b = ap Some (append_assoc x a b)

-- what was known is known
pub still_known : (old new : Option (List ℕ)) → is_some new ≡ is_some old → (x : List ℕ) → old ≡ Some x → (y : List ℕ) × (new ≡ Some y)
still_known old None same x is = cc (ap is_some is)
still_known old (Some y) same x is = (y, refl)
