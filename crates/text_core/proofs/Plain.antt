-- Words of visible ASCII characters.
use Rattle.std.proofs.Common.{◌≡◌, ℕ, zero, suc, ◌+◌, ◌/◌, ◌%◌, ◌^◌, ◌<◌, ◌≤◌, true, List, [], ◌∷◌, ◌++◌, get_or, take, Option, IsAscii, IfSome, decimal, refl, ap, ◌∙◌, arith, append_assoc, get_or-take, length-take}
use Rattle.std.specs.List.{list_all, prefix_len}
use Rattle.std.proofs.lemmas.Bool.Decides.{nat_tests}
use Rattle.std.proofs.lemmas.Fmt.{decimal_by_steps}
use Rattle.std.proofs.lemmas.List.Folds.{length-prefix_len, list_all-append}
use Rattle.std.proofs.lemmas.List.Sums.{AllPass-from_list_all, list_all-from_AllPass, prefix_len_passes}
use Rattle.std.proofs.lemmas.Str.Ascii.{IsAscii-from_all}
use Rattle.price_core.specs.Ranges.{IsPrice}
use Rattle.price_core.specs.declared.quote.Unmatched.{Unmatched}
use Rattle.session_core.specs.Dates.{Civil, digit}
use Rattle.wire_core.specs.Names.{is_visible, visible_count}
use Rattle.text_core.specs.Words.{last_digits, time_word, date_word, price_word, optional_price_word, index_word, hex_digit, flags_word, name_word, unmatched_word}
use Rattle.text_core.proofs.Digits.{two_digits, four_digits, nine_digits}
pub use Rattle.std.proofs.lemmas.Bool.{and_parts as both}

pub record IsPlain (word : List ℕ) : Type 0 where
  pub visible : list_all is_visible word ≡ true

pub plain : (word : List ℕ) → list_all is_visible word ≡ true → IsPlain word
plain word h = record { visible = h }

pub visible_ascii : (bs : List ℕ) → list_all is_visible bs ≡ true → IsAscii bs
visible_ascii bs h = IsAscii-from_all bs (λ k d short. below (get_or bs k d) (AllPass-from_list_all is_visible bs h k d short)) where
  below : (b : ℕ) → is_visible b ≡ true → b < 128
  below b h = grind (arith, nat_tests)

pub name_plain : (name : List ℕ) → IsPlain (name_word name)
unfolding name_word
name_plain name = plain _ (list_all-from_AllPass is_visible (take (visible_count name) name) (λ k d short.
    let within : k < prefix_len is_visible name = omega (arith, short, length-take (visible_count name) name, length-prefix_len is_visible name) in
    ap is_visible (get_or-take (visible_count name) name k d (omega (arith, within, length-prefix_len is_visible name))) ∙ prefix_len_passes is_visible name k d within))

pub plain_append : (a b : List ℕ) → IsPlain a → IsPlain b → IsPlain (a ++ b)
plain_append a b first second = plain (a ++ b) (list_all-append is_visible a b ∙ rw (first.visible, second.visible) refl)

plain_byte : (b : ℕ) → 33 ≤ b → b ≤ 126 → IsPlain (b ∷ [])
plain_byte b low high = plain (b ∷ []) (grind (arith, nat_tests))

plain_cons : (b : ℕ) (bs : List ℕ) → IsPlain (b ∷ []) → IsPlain bs → IsPlain (b ∷ bs)
plain_cons b bs first more = plain_append (b ∷ []) bs first more

digits_plain : (k n : ℕ) → IsPlain (last_digits k n)
unfolding last_digits
digits_plain zero n = plain [] refl
digits_plain (suc k) n = plain_append (last_digits k (n / 10)) (digit n ∷ []) (digits_plain k (n / 10)) (plain_byte (digit n) (omega arith) (omega arith))

pub decimal_plain : (n : ℕ) → n < 2 ^ 64 → IsPlain (decimal n)
decimal_plain n h =
    let one = λ (n : ℕ) (small : n < 10). plain_byte (48 + n) (omega arith) (omega arith) in
    decimal_by_steps (λ n ds. IsPlain ds) one (λ n ds ten more. plain_append ds _ more (one (n % 10) (omega arith))) n h

-- words of several parts, from the first part on
pub time_parts : (t : ℕ) → time_word t ≡ last_digits 2 (t / 3600000000000) ++ 58 ∷ (last_digits 2 (t / 60000000000 % 60) ++ 58 ∷ (last_digits 2 (t / 1000000000 % 60) ++ 46 ∷ last_digits 9 (t % 1000000000)))
unfolding time_word
time_parts t = simp append_assoc refl

pub date_parts : (d : Civil) → date_word d ≡ last_digits 4 d.year ++ 45 ∷ (last_digits 2 d.month ++ 45 ∷ last_digits 2 d.day)
unfolding date_word
date_parts d = simp append_assoc refl

pub price_parts : (p : ℕ) → price_word p ≡ decimal (p / 10000) ++ 46 ∷ last_digits 4 (p % 10000)
unfolding price_word
price_parts p = simp append_assoc refl

pub index_parts : (v : ℕ) → index_word v ≡ decimal (v / 100) ++ 46 ∷ last_digits 2 (v % 100)
unfolding index_word
index_parts v = simp append_assoc refl

-- words of several parts, digit by digit
pub time_digits : (t : ℕ) → time_word t
    ≡ digit (t / 3600000000000 / 10) ∷ digit (t / 3600000000000) ∷ 58 ∷ digit (t / 60000000000 % 60 / 10) ∷ digit (t / 60000000000 % 60) ∷ 58
    ∷ digit (t / 1000000000 % 60 / 10) ∷ digit (t / 1000000000 % 60) ∷ 46 ∷ digit (t % 1000000000 / 100000000) ∷ digit (t % 1000000000 / 10000000)
    ∷ digit (t % 1000000000 / 1000000) ∷ digit (t % 1000000000 / 100000) ∷ digit (t % 1000000000 / 10000) ∷ digit (t % 1000000000 / 1000)
    ∷ digit (t % 1000000000 / 100) ∷ digit (t % 1000000000 / 10) ∷ digit (t % 1000000000) ∷ []
time_digits t =
    time_parts t
    ∙ (λ i. two_digits (t / 3600000000000) i ++ 58 ∷ (two_digits (t / 60000000000 % 60) i ++ 58 ∷ (two_digits (t / 1000000000 % 60) i ++ 46 ∷ nine_digits (t % 1000000000) i)))

pub date_digits : (d : Civil) → date_word d
    ≡ digit (d.year / 1000) ∷ digit (d.year / 100) ∷ digit (d.year / 10) ∷ digit d.year ∷ 45 ∷ digit (d.month / 10) ∷ digit d.month ∷ 45 ∷ digit (d.day / 10) ∷ digit d.day ∷ []
date_digits d = date_parts d ∙ (λ i. four_digits d.year i ++ 45 ∷ (two_digits d.month i ++ 45 ∷ two_digits d.day i))

pub price_digits : (p : ℕ) → price_word p
    ≡ decimal (p / 10000) ++ 46 ∷ digit (p % 10000 / 1000) ∷ digit (p % 10000 / 100) ∷ digit (p % 10000 / 10) ∷ digit (p % 10000) ∷ []
price_digits p = price_parts p ∙ (λ i. decimal (p / 10000) ++ 46 ∷ four_digits (p % 10000) i)

pub index_digits : (v : ℕ) → index_word v ≡ decimal (v / 100) ++ 46 ∷ digit (v % 100 / 10) ∷ digit (v % 100) ∷ []
index_digits v = index_parts v ∙ (λ i. decimal (v / 100) ++ 46 ∷ two_digits (v % 100) i)

-- a word, a mark and a plain rest
joined_plain : (first : List ℕ) (mark : ℕ) (rest : List ℕ) → IsPlain first → IsPlain (mark ∷ []) → IsPlain rest → IsPlain (first ++ mark ∷ rest)
joined_plain first mark rest a m r = plain_append first (mark ∷ rest) a (plain_cons mark rest m r)

pub time_plain : (t : ℕ) → IsPlain (time_word t)
time_plain t = rw (time_parts t) (search (joined_plain, digits_plain))

pub date_plain : (d : Civil) → IsPlain (date_word d)
date_plain d = rw (date_parts d) (search (joined_plain, digits_plain))

pub price_plain : (p : ℕ) → p < 2 ^ 64 → IsPlain (price_word p)
price_plain p h = rw (price_parts p) (joined_plain _ 46 _ (decimal_plain (p / 10000) (omega (arith, h))) (plain _ refl) (digits_plain 4 (p % 10000)))

pub optional_plain : (p : Option ℕ) → IfSome p IsPrice → IsPlain (optional_price_word p)
optional_plain p h = grind (arith, price_plain)

pub index_plain : (v : ℕ) → v < 2 ^ 64 → IsPlain (index_word v)
index_plain v h = rw (index_parts v) (joined_plain _ 46 _ (decimal_plain (v / 100) (omega (arith, h))) (plain _ refl) (digits_plain 2 (v % 100)))

hex_plain : (n : ℕ) → IsPlain (hex_digit n ∷ [])
hex_plain n = plain (hex_digit n ∷ []) (grind (arith, nat_tests))

pub flags_plain : (f : ℕ) → IsPlain (flags_word f)
unfolding flags_word
flags_plain f = plain_cons _ _ (hex_plain (f / 4096)) (plain_cons _ _ (hex_plain (f / 256)) (plain_cons _ _ (hex_plain (f / 16)) (hex_plain f)))

pub unmatched_plain : (u : Unmatched) → IsPlain (unmatched_word u)
unmatched_plain u = plain (unmatched_word u) (grind arith)
