-- Each value is found in its own word.
use Rattle.std.proofs.Common.{◌≡◌, true, ℕ, ◌+◌, ◌-◌, ◌*◌, ◌/◌, ◌%◌, ◌^◌, ◌<◌, ◌≤◌, ◌==◌, IsTrue, IfSome, nat_lt, List, ◌∷◌, ◌++◌, length, get_or, take, drop, replicate, decimal, Option, Some, sym, ap, ◌∙◌, arith, length-take-le, take-append-drop, length-drop, ext_get_or}
use Rattle.std.specs.List.{list_all}
use Rattle.std.specs.Result.{result_ok}
use Rattle.std.proofs.lemmas.Bool.{and_parts, eqb-true}
use Rattle.std.proofs.lemmas.Bool.Decides.{nat_tests}
use Rattle.std.proofs.lemmas.List.{drop-replicate, get_or-replicate, length-replicate}
use Rattle.std.proofs.lemmas.List.Folds.{length-prefix_len}
use Rattle.std.proofs.lemmas.List.Sums.{AllPass-from_list_all, fold-append, prefix_len-le-length}
use Rattle.price_core.specs.Ranges.{IsPrice, IsIndex, IsLeverage}
use Rattle.price_core.specs.declared.quote.Unmatched.{Unmatched}
use Rattle.session_core.specs.Dates.{Civil, IsCivil, days_of}
use Rattle.session_core.specs.CivilDates.{civil_date}
use Rattle.session_core.specs.Moments.{IsMoment}
use Rattle.wire_core.specs.Fields.{checked, is_moment}
use Rattle.wire_core.specs.Names.{is_name, is_visible, visible_count}
use Rattle.text_core.specs.Words.{last_digits, time_word, date_word, price_word, optional_price_word, index_word, hex_digit, flags_word, name_word, unmatched_word}
use Rattle.text_core.specs.Reading.{number_in, number8_in, number16_of, number16_in, number32_of, number32_in, nanos_of, moment_of, moment_in, price_of, price_in, optional_price_of, optional_price_in, index_in, date_in, leverage_in, name_in, hex_value, flags_in, unmatched_in}
use Rattle.text_core.proofs.Digits.{value_from, decimal_value, digits_value, point_value, number_is}
use Rattle.text_core.proofs.Plain.{time_parts, date_parts, price_parts, index_parts}

pub number_again : (n : ℕ) → n < 2 ^ 64 → number_in (decimal n) ≡ n
number_again n h = number_is (decimal n) n (decimal_value n h) h

pub number8_again : (n : ℕ) → n < 2 ^ 8 → number8_in (decimal n) ≡ Some n
unfolding number8_in
number8_again n h = rw (number_again n (omega (arith, h))) (grind (arith, nat_tests))

pub number16_again : (n : ℕ) → n < 2 ^ 16 → number16_in (decimal n) ≡ Some n
unfolding number16_in number16_of
number16_again n h = rw (number_again n (omega (arith, h))) (grind (arith, nat_tests))

number32_is : (word : List ℕ) (n : ℕ) → number_in word ≡ n → n < 2 ^ 32 → number32_in word ≡ Some n
unfolding number32_in number32_of
number32_is word n e h = rw e (grind (arith, nat_tests))

pub number32_again : (n : ℕ) → n < 2 ^ 32 → number32_in (decimal n) ≡ Some n
number32_again n h = number32_is (decimal n) n (number_again n (omega (arith, h))) h

-- the digits of a time
time_value : (h m s n : ℕ) → h < 100 → m < 100 → s < 100 → n < 1000000000 → value_from 0 (last_digits 2 h ++ 58 ∷ (last_digits 2 m ++ 58 ∷ (last_digits 2 s ++ 46 ∷ last_digits 9 n))) ≡ ((h * 100 + m) * 100 + s) * 1000000000 + n
time_value h m s n lh lm ls ln = simp (fold-append, digits_value) (omega arith)

nanos_are : (h m s n k : ℕ) → h < 100 → m < 100 → s < 100 → n < 1000000000 → k ≡ ((h * 100 + m) * 100 + s) * 1000000000 + n → nanos_of k ≡ (h * 3600 + m * 60 + s) * 1000000000 + n
nanos_are h m s n k lh lm ls ln e = omega arith

time_number : (t : ℕ) → IsMoment t → nanos_of (number_in (time_word t)) ≡ t
time_number t h =
    let hours = t / 3600000000000 in
    let minutes = t / 60000000000 % 60 in
    let seconds = t / 1000000000 % 60 in
    let few : hours < 100 = omega (arith, h.in_day) in
    let value = ap (value_from 0) (time_parts t) ∙ time_value hours minutes seconds (t % 1000000000) few (omega arith) (omega arith) (omega arith) in
    let number = number_is (time_word t) _ value (omega (arith, few)) in
    nanos_are hours minutes seconds (t % 1000000000) _ few (omega arith) (omega arith) (omega arith) number ∙ omega arith

pub moment_again : (t : ℕ) → IsMoment t → moment_in (time_word t) ≡ Some t
unfolding moment_in moment_of
moment_again t h = ap (λ n. checked (is_moment n) n) (time_number t h) ∙ grind (arith, nat_tests)

date_value : (y m d : ℕ) → y < 10000 → m < 100 → d < 100 → value_from 0 (last_digits 4 y ++ 45 ∷ (last_digits 2 m ++ 45 ∷ last_digits 2 d)) ≡ (y * 100 + m) * 100 + d
date_value y m d ly lm ld = simp (fold-append, digits_value) (omega arith)

date_some : (d : Civil) → IsCivil d → result_ok (civil_date d.year d.month d.day) ≡ Some d
date_some d h = grind (arith, nat_tests)

days_below : (y m : ℕ) → days_of y m < 100
days_below y m = grind (arith, nat_tests)

pub date_again : (d : Civil) → IsCivil d → date_in (date_word d) ≡ Some d
unfolding date_in
date_again d h =
    let year : d.year < 10000 = omega (arith, h.year.last) in
    let month : d.month < 100 = omega (arith, h.month.last) in
    let day : d.day < 100 = omega (arith, h.day.last, days_below d.year d.month) in
    let n = (d.year * 100 + d.month) * 100 + d.day in
    let value = ap (value_from 0) (date_parts d) ∙ date_value d.year d.month d.day year month day in
    let number = number_is (date_word d) n value (omega (arith, year, month, day)) in
    let at_y : n / 10000 % 10000 ≡ d.year = omega (arith, year, month, day) in
    let at_m : n / 100 % 100 ≡ d.month = omega (arith, year, month, day) in
    let at_d : n % 100 ≡ d.day = omega (arith, year, month, day) in
    rw (number, at_y, at_m, at_d) (date_some d h)

price_number : (p : ℕ) → IsPrice p → number_in (price_word p) ≡ p
price_number p h =
    let value = point_value 4 (p / 10000) (p % 10000) (omega (arith, h.most)) (omega arith) in
    number_is (price_word p) p (ap (value_from 0) (price_parts p) ∙ value ∙ omega arith) (omega (arith, h.most))

pub price_again : (p : ℕ) → IsPrice p → price_in (price_word p) ≡ Some p
unfolding price_in price_of
price_again p h = rw (price_number p h) (grind (arith, nat_tests))

pub optional_again : (p : Option ℕ) → IfSome p IsPrice → optional_price_in (optional_price_word p) ≡ Some p
unfolding optional_price_in optional_price_of number_in
optional_again p h = grind (arith, nat_tests, price_number)

pub index_again : (v : ℕ) → IsIndex v → index_in (index_word v) ≡ Some v
unfolding index_in
index_again v h =
    let value = point_value 2 (v / 100) (v % 100) (omega (arith, h.most)) (omega arith) in
    let number = number_is (index_word v) v (ap (value_from 0) (index_parts v) ∙ value ∙ omega arith) (omega (arith, h.most)) in
    rw (number32_is (index_word v) v number (omega (arith, h.most))) (grind (arith, nat_tests))

pub leverage_again : (l : ℕ) → IsLeverage l → leverage_in (decimal l) ≡ Some l
unfolding leverage_in
leverage_again l h = rw (number8_again l (omega (arith, h.most))) (grind (arith, nat_tests))

hex_again : (n : ℕ) → hex_value (hex_digit n) ≡ n % 16
hex_again n = grind (arith, nat_tests)

pub flags_again : (f : ℕ) → f ≤ 1023 → flags_in (flags_word f) ≡ Some f
unfolding flags_in flags_word
flags_again f h = rw (hex_again (f / 4096), hex_again (f / 256), hex_again (f / 16), hex_again f) (ap Some (omega (arith, h)))

-- zero bytes are told by their number
zeros_are : (xs : List ℕ) → list_all (λ byte. byte == 0) xs ≡ true → xs ≡ replicate (length xs) 0
zeros_are xs h = ext_get_or 0 xs (replicate (length xs) 0) (sym (length-replicate (length xs) 0)) (λ i short.
    eqb-true (get_or xs i 0) 0 (AllPass-from_list_all (λ byte. byte == 0) xs h i 0 short) ∙ sym (get_or-replicate (length xs) i 0 0 short))

pub name_again : (name : List ℕ) → length name ≡ 8 → IsTrue (is_name name) → name_in (name_word name) ≡ Some name
unfolding name_in name_word
name_again name eight h =
    let count = visible_count name in
    let few : count ≤ 8 = omega (arith, length-prefix_len is_visible name, prefix_len-le-length is_visible name, eight) in
    let len : length (take count name) ≡ count = length-take-le count name (omega (arith, few, eight)) in
    let zeros = zeros_are (drop count name) (and_parts (nat_lt 0 count) _ h).1 in
    let behind : drop count name ≡ replicate (8 - count) 0 = zeros ∙ ap (λ k. replicate k 0) (length-drop count name ∙ ap (λ k. k - count) eight) in
    let whole : take count name ++ drop count (replicate 8 0) ≡ name = ap (λ t. take count name ++ t) (drop-replicate count 8 0 ∙ sym behind) ∙ take-append-drop count name in
    rw (len, whole) (grind (arith, nat_tests, few))

pub unmatched_again : (u : Unmatched) → unmatched_in (unmatched_word u) ≡ Some u
unmatched_again u = grind arith
