-- Remainders by a reciprocal.
use Rattle.std.proofs.Common.{◌≡◌, ℕ, ◌+◌, ◌-◌, ◌*◌, ◌/◌, ◌%◌, ◌^◌, ◌<◌, ◌≤◌, refl, sym, ap, ◌∙◌, arith}
use Rattle.std.proofs.Math.Nat.{add-mul, div-add-mod, lt_of_mul-lt-mul_right, mod-lt, add_assoc, mul-add, mul-le-mul, mul_assoc, mul_comm, mul_left_comm, mul_right_comm}
use Rattle.std.proofs.lemmas.Nat.{div-add-mod', div-mul-add, mod-mul-add, mul-lt, mul-mod_first}
use Rattle.gen_core.specs.Reciprocals.{IsReciprocal}

sums : (all a b c d e x f : ℕ) → all ≡ a + b → a ≡ c → b ≡ d + e → x ≡ c + e → d ≡ f → all ≡ f + x
sums all a b c d e x f is first second whole turned = omega arith

-- A product with the quotient that was rounded up is so many wholes and a part, of which the divisor makes the remainder
-- and less than a whole.
module _ (n m excess quotient rest part x : ℕ) (rounded : m * n ≡ 2 ^ 64 + excess) (is : x ≡ quotient * n + rest) (part_is : part ≡ excess * quotient + m * rest) where
  product : m * x ≡ quotient * 2 ^ 64 + part
  product =
      let whole : m * x ≡ m * (quotient * n + rest) = ap (λ (y : ℕ). m * y) is in
      let wholes : quotient * (m * n) ≡ quotient * (2 ^ 64 + excess) = ap (λ (y : ℕ). quotient * y) rounded in
      let apart : m * (quotient * n + rest) ≡ m * (quotient * n) + m * rest = mul-add m (quotient * n) rest in
      let turned : m * (quotient * n) ≡ quotient * (m * n) = mul_left_comm m quotient n in
      let parts : quotient * (2 ^ 64 + excess) ≡ quotient * 2 ^ 64 + quotient * excess = mul-add quotient (2 ^ 64) excess in
      let swapped : quotient * excess ≡ excess * quotient = mul_comm quotient excess in
      whole ∙ apart ∙ (λ i. (turned ∙ wholes ∙ parts) i + m * rest) ∙ (λ i. quotient * 2 ^ 64 + swapped i + m * rest) ∙ add_assoc (quotient * 2 ^ 64) (excess * quotient) (m * rest)
      ∙ (λ i. quotient * 2 ^ 64 + sym part_is i)

  scaled : part * n ≡ rest * 2 ^ 64 + excess * x
  scaled =
      let whole : excess * x ≡ excess * (quotient * n) + excess * rest = ap (λ (y : ℕ). excess * y) is ∙ mul-add excess (quotient * n) rest in
      let rests : m * rest * n ≡ 2 ^ 64 * rest + excess * rest = mul_right_comm m rest n ∙ ap (λ (y : ℕ). y * rest) rounded ∙ add-mul (2 ^ 64) excess rest in
      let all : part * n ≡ excess * quotient * n + m * rest * n = ap (λ (y : ℕ). y * n) part_is ∙ add-mul (excess * quotient) (m * rest) n in
      let turned : excess * quotient * n ≡ excess * (quotient * n) = mul_assoc excess quotient n in
      sums (part * n) (excess * quotient * n) (m * rest * n) (excess * (quotient * n)) (2 ^ 64 * rest) (excess * rest) (excess * x) (rest * 2 ^ 64) all turned rests whole (mul_comm (2 ^ 64) rest)

  module _ (less : rest < n) (small : excess * x < 2 ^ 64) where
    part_below : part < 2 ^ 64
    part_below =
        let room : (rest + 1) * 2 ^ 64 ≤ n * 2 ^ 64 = mul-le-mul (omega arith) (omega arith) in
        lt_of_mul-lt-mul_right n (omega (arith, scaled))

    behind_point : m * x % 2 ^ 64 ≡ part
    behind_point = ap (λ (y : ℕ). y % 2 ^ 64) product ∙ mod-mul-add quotient (2 ^ 64) part part_below

    pub gives_rest : (m * x % 2 ^ 64) * n / 2 ^ 64 ≡ rest
    gives_rest = ap (λ (y : ℕ). y * n / 2 ^ 64) behind_point ∙ ap (λ (y : ℕ). y / 2 ^ 64) scaled ∙ div-mul-add rest (2 ^ 64) (excess * x) small

-- the quotient rounded up, times the divisor
rounded_up : (n : ℕ) → 0 < n → ((2 ^ 64 - 1) / n + 1) * n ≡ 2 ^ 64 + (n - 1 - (2 ^ 64 - 1) % n)
rounded_up n some =
    let parts = div-add-mod (2 ^ 64 - 1) n in
    let below = mod-lt (2 ^ 64 - 1) some in
    omega arith

pub remainder_is : (n r x : ℕ) → IsReciprocal n r → x < 2 ^ 32 → (r * x % 2 ^ 64) * n / 2 ^ 64 ≡ x % n
remainder_is n r x reciprocal few =
    let m : ℕ = (2 ^ 64 - 1) / n + 1 in
    let excess : ℕ = n - 1 - (2 ^ 64 - 1) % n in
    let parts = div-add-mod x n in
    let small = reciprocal.small in
    let product : excess * x < 2 ^ 32 * 2 ^ 32 = mul-lt excess x (2 ^ 32) (2 ^ 32) (omega arith) few in
    ap (λ (s : ℕ). (s * x % 2 ^ 64) * n / 2 ^ 64) reciprocal.is
    ∙ ap (λ (y : ℕ). y * n / 2 ^ 64) (mul-mod_first m x (2 ^ 64))
    ∙ gives_rest n m excess (x / n) (x % n) (excess * (x / n) + m * (x % n)) x (rounded_up n reciprocal.some) (sym (div-add-mod' x n)) refl (mod-lt x reciprocal.some) (omega arith)
