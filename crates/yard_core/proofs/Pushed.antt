-- What holds of each element of a list by its place, also after one more is pushed.
use Rattle.std.proofs.Common.{◌≡◌, ℕ, zero, suc, List, [], ◌∷◌, ◌++◌, length, subst}
use Rattle.std.specs.Prelude.{Some, slice_get}

some_is : {A : Type 0} (a b : A) → Some a ≡ Some b → a ≡ b
some_is a b e = cc

pub each_pushed : {A : Type 0} (P : ℕ → A → Type 0) (xs : List A) (x : A) → ((k : ℕ) (a : A) → slice_get xs k ≡ Some a → P k a) → P (length xs) x
    → (k : ℕ) (a : A) → slice_get (xs ++ x ∷ []) k ≡ Some a → P k a
each_pushed P [] x each last zero a e = subst (P 0) (some_is x a e) last
each_pushed P [] x each last (suc k) a e = absurd (cc)
each_pushed P (y ∷ ys) x each last zero a e = each zero a e
each_pushed P (y ∷ ys) x each last (suc k) a e = each_pushed (λ n. P (suc n)) ys x (λ j b. each (suc j) b) last k a e
