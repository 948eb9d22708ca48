-- A symbol of which nothing was said says nothing.
use Rattle.std.proofs.Common.{◌≡◌, ℕ, zero, suc, List, [], ◌∷◌, ◌++◌, refl, ◌∙◌, ap}
use Rattle.audit_core.specs.declared.stock.Stock.{Stock}
use Rattle.audit_core.specs.Audits.{silent, stock_at}

pub same-more : (xs : List Stock) (n : ℕ) → stock_at (xs ++ silent ∷ []) n ≡ stock_at xs n
same-more [] zero = refl
same-more [] (suc n) = refl
same-more (x ∷ xs) zero = refl
same-more (x ∷ xs) (suc n) = same-more xs n

pub more : (xs ys zs : List Stock) → ys ≡ xs ++ silent ∷ [] → ((n : ℕ) → stock_at xs n ≡ stock_at zs n) → (n : ℕ) → stock_at ys n ≡ stock_at zs n
more xs ys zs e same n = ap (λ (l : List Stock). stock_at l n) e ∙ same-more xs n ∙ same n
