-- Draws that go on, and moments that stay within the day.
use Rattle.std.proofs.Common.{◌≡◌, ℕ, zero, suc, ◌+◌, ◌*◌, ◌/◌, ◌<◌, ◌≤◌, ap, ◌∙◌, arith}
use Rattle.std.proofs.Math.Nat.{mul-div-le}
use Rattle.gen_core.specs.Draws.{next_number, number_after}

-- draws behind draws
pub number_after-add : (number a b : ℕ) → number_after (number_after number a) b ≡ number_after number (b + a)
number_after-add number a zero = let none : a ≡ 0 + a = omega arith in ap (number_after number) none
number_after-add number a (suc b) =
    let more : suc (b + a) ≡ suc b + a = omega arith in
    ap next_number (number_after-add number a b) ∙ ap (number_after number) more

times_le : (k n m : ℕ) → k ≤ n → k * m ≤ n * m
times_le zero n m le = omega arith
times_le (suc k) zero m le = absurd (omega arith)
times_le (suc k) (suc n) m le = omega (arith, times_le k n m (omega arith))

-- so many gaps of so many are at most the whole
pub gaps_le : (all k n : ℕ) → k < n → k * (all / n) ≤ all
gaps_le all k n lt = omega (arith, times_le k n (all / n) (omega arith), mul-div-le all n)
