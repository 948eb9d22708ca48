-- Each single value is found in its own word.
use Rattle.std.proofs.Common.{◌≡◌, ℕ, Bool, true, List, Option, Some, bytes_eq, ap, ◌∙◌, arith}
use Rattle.std.proofs.lemmas.Slice.Eq.{bytes_eq-Decides}
use Rattle.std.proofs.lemmas.Bool.Decides.{nat_tests}
use Rattle.text_core.specs.Words.{price_word, time_word}
use Rattle.text_core.specs.Reading.{price_of, price_in, moment_of, moment_in}
use Rattle.text_core.specs.Values.{PrintsPrice, PrintsTime}
use Rattle.text_core.proofs.Fields.{price_again, moment_again}

-- what is found in a word that prints a value
pub price_found : (word : List ℕ) (units : ℕ) → PrintsPrice word units → price_in word ≡ Some units
price_found word units prints = ap price_in prints.text ∙ price_again units prints.range

pub time_found : (word : List ℕ) (nanos : ℕ) → PrintsTime word nanos → moment_in word ≡ Some nanos
time_found word nanos prints = ap moment_in prints.text ∙ moment_again nanos prints.range

-- a word that is compared with that of the value that it is taken for
module _ (word : List ℕ) (x : ℕ) (r : Option ℕ) (some : r ≡ Some x) (b : Bool) (passed : b ≡ true) where
  pub prints_price : r ≡ price_in word → b ≡ bytes_eq word (price_word x) → PrintsPrice word x
  unfolding price_in price_of
  prints_price found is = grind (arith, nat_tests, bytes_eq-Decides)

  pub prints_time : r ≡ moment_in word → b ≡ bytes_eq word (time_word x) → PrintsTime word x
  unfolding moment_in moment_of
  prints_time found is = grind (arith, nat_tests, bytes_eq-Decides)
