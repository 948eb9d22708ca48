-- Texts of ticks, one after the other.
use Rattle.std.proofs.Common.{◌≡◌, ℕ, ◌+◌, zero, suc, List, [], ◌∷◌, ◌++◌, sym, ap, ◌∙◌, arith, add-one, append-nil, append_assoc}
use Rattle.std.specs.List.{flat_map, range_with_len}
use Rattle.std.proofs.lemmas.List.Concat.{flat_map-append}

range_suc : (a n j : ℕ) → a + n ≡ j → range_with_len a (suc n) ≡ range_with_len a n ++ j ∷ []
range_suc a zero j is = ap (λ (k : ℕ). k ∷ []) (omega arith)
range_suc a (suc n) j is = ap (λ (ks : List ℕ). a ∷ ks) (range_suc (a + 1) n j (omega arith))

-- one more
ticks_more : (f : ℕ → List ℕ) (a n j : ℕ) → a + n ≡ j
    → flat_map f (range_with_len a (n + 1)) ≡ flat_map f (range_with_len a n) ++ f j
ticks_more f a n j is =
    ap (flat_map f) (rw add-one (range_suc a n j is)) ∙ flat_map-append f (range_with_len a n) (j ∷ [])
    ∙ ap (λ (text : List ℕ). flat_map f (range_with_len a n) ++ text) (append-nil (f j))

-- a tick is written behind so many
pub tick_put : (f : ℕ → List ℕ) (n : ℕ) (start before after : List ℕ) → before ≡ start ++ flat_map f (range_with_len 0 n) → after ≡ before ++ f n
    → after ≡ start ++ flat_map f (range_with_len 0 (n + 1))
tick_put f n start before after so_far put =
    put ∙ ap (λ (text : List ℕ). text ++ f n) so_far ∙ append_assoc start (flat_map f (range_with_len 0 n)) (f n)
    ∙ ap (λ (text : List ℕ). start ++ text) (sym (ticks_more f 0 n n (omega arith)))
