-- The first newline of a piece.
use Rattle.std.proofs.Common.{◌≡◌, ℕ, ◌+◌, ◌<◌, ◌==◌, not, true, List, [], ◌∷◌, ◌++◌, length, get_or, take, IfSome, Option, Some, None, arith, get_or-take, length-take-le}
use Rattle.std.proofs.lemmas.Bool.{false_from_ne_true, not_from_false}
use Rattle.std.proofs.lemmas.Grind.{common_steps}
use Rattle.std.proofs.lemmas.List.Elements.{All-from_get_or}
use Rattle.std.proofs.lemmas.List.Sums.{list_all-from_AllPass}
use Rattle.memchr.specs.Find.{IsFirstByte, is_byte}
use Rattle.text_core.specs.InternalStreams.{IsOneLine}

one_line : (bytes : List ℕ) → ((k : ℕ) → k < length bytes → get_or bytes k 0 == 10 ≡ true → ⊥) → IsOneLine bytes
one_line bytes none = list_all-from_AllPass (λ b. not (b == 10)) bytes (All-from_get_or (λ b. not (b == 10) ≡ true) bytes 0 (λ k short. not_from_false _ (false_from_ne_true _ (none k short))))

-- what a search tells
module _ (bytes : List ℕ) where
  pub found_within : (r : Option ℕ) → IsFirstByte (is_byte 10) bytes r → IfSome r (λ n. n < length bytes)
  found_within r first = grind arith

  pub found_line : (r : Option ℕ) → IsFirstByte (is_byte 10) bytes r → IfSome r (λ n. IsOneLine (take n bytes))
  found_line None first = tt
  found_line (Some n) first = one_line (take n bytes) (λ k short.
      let before : k < n = omega (arith, short, length-take-le n bytes (omega (arith, first.0.high))) in
      rw (get_or-take n bytes k 0 before) (first.0.before k (omega arith) before))

  pub found_ended : (r : Option ℕ) → IsFirstByte (is_byte 10) bytes r → IfSome r (λ n. take (n + 1) bytes ≡ take n bytes ++ 10 ∷ [])
  found_ended r first = grind (arith, common_steps)

  pub found_none : (r : Option ℕ) → IsFirstByte (is_byte 10) bytes r → r ≡ None → IsOneLine bytes
  found_none None first is = one_line bytes (λ k short. first k (omega arith) short)
  found_none (Some n) first is = absurd cc
