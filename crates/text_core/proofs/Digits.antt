-- The digits of a number, written and read.
use Rattle.std.proofs.Common.{◌≡◌, ℕ, zero, suc, ◌+◌, ◌*◌, ◌/◌, ◌%◌, ◌^◌, ◌<◌, ◌≤◌, List, [], ◌∷◌, ◌++◌, decimal, fold, refl, ◌∙◌, arith, rules, add-one}
use Rattle.std.specs.Str.Parse.{AllDigits}
use Rattle.std.proofs.Math.Nat.{div-div-eq-div-mul, pow-suc, pow-le-pow_right}
use Rattle.std.proofs.lemmas.Bool.Decides.{nat_tests}
use Rattle.std.proofs.lemmas.Fmt.{digits_value-decimal}
use Rattle.std.proofs.lemmas.List.Sums.{fold_push, fold-append}
use Rattle.std.proofs.lemmas.Str.Parse.{IsNumeralModel, numerals_by_fold, tells_digits}
use Rattle.session_core.specs.Dates.{digit}
use Rattle.text_core.specs.Words.{last_digits}
use Rattle.text_core.specs.Reading.{next_number, number_in}

-- the digits that are written at once
pub two_digits : (n : ℕ) → last_digits 2 n ≡ digit (n / 10) ∷ digit n ∷ []
unfolding last_digits
two_digits n = refl

pub four_digits : (n : ℕ) → last_digits 4 n ≡ digit (n / 1000) ∷ digit (n / 100) ∷ digit (n / 10) ∷ digit n ∷ []
unfolding last_digits
four_digits n = simp div-div-eq-div-mul

pub nine_digits : (n : ℕ) → last_digits 9 n
    ≡ digit (n / 100000000) ∷ digit (n / 10000000) ∷ digit (n / 1000000) ∷ digit (n / 100000) ∷ digit (n / 10000)
    ∷ digit (n / 1000) ∷ digit (n / 100) ∷ digit (n / 10) ∷ digit n ∷ []
unfolding last_digits
nine_digits n = simp div-div-eq-div-mul

-- a digit that is read behind a number
next_digit : (m d b : ℕ) → d < 10 → b ≡ d + 48 → next_number m b ≡ m * 10 + d
next_digit m d b small e = grind (arith, nat_tests)

-- the number that a word gives behind another number
abbrev pub value_from : ℕ → List ℕ → ℕ
value_from m word = fold next_number m word

numerals : IsNumeralModel (AllDigits 10) (value_from 0)
numerals = numerals_by_fold (AllDigits 10) tells_digits value_from (search rules)

-- the number of a decimal word
pub decimal_value : (n : ℕ) → n < 2 ^ 64 → value_from 0 (decimal n) ≡ n
decimal_value n h = digits_value-decimal numerals n h

-- a number of so many digits, and one digit more
pub next_few : (n b len : ℕ) → n < 10 ^ len → next_number n b < 10 ^ (len + 1)
next_few n b len few = grind (arith, nat_tests, few, pow-suc 10 len, add-one len)

pub few_bits : (len : ℕ) → len ≤ 19 → 10 ^ len ≤ 10 ^ 19
few_bits len few = pow-le-pow_right (omega arith) few

-- ten to the power of k
abbrev pub weight : ℕ → ℕ
weight zero = 1
weight (suc k) = weight k * 10

-- k digits that are read behind a number
pub digits_value : (k n m : ℕ) → n < weight k → value_from m (last_digits k n) ≡ m * weight k + n
unfolding last_digits
digits_value zero n m h = omega (arith, h)
digits_value (suc k) n m h =
    fold_push next_number m (last_digits k (n / 10)) (digit n)
    ∙ rw (digits_value k (n / 10) m (omega (arith, h)))
    (next_digit (m * weight k + n / 10) (n % 10) (digit n) (omega arith) refl ∙ omega arith)

-- and behind a decimal number and a point
pub point_value : (k a b : ℕ) → a < 2 ^ 64 → b < weight k → value_from 0 (decimal a ++ 46 ∷ last_digits k b) ≡ a * weight k + b
point_value k a b few small = fold-append next_number 0 (decimal a) (46 ∷ last_digits k b) ∙ rw (decimal_value a few) (digits_value k b a small)

pub number_is : (word : List ℕ) (n : ℕ) → value_from 0 word ≡ n → n < 2 ^ 64 → number_in word ≡ n
unfolding number_in
number_is word n e h = rw e (omega (arith, h))
