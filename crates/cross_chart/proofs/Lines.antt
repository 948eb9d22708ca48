-- What a line says is found in it.
use Rattle.std.proofs.Common.{◌≡◌, ◌↔◌, ℕ, Bool, true, false, List, Option, Some, None, IsTrue, refl, sym, ap, subst, ◌∙◌, arith}
use Rattle.cross_core.specs.declared.order.Row.{Row as RowOf}
use Rattle.price_core.specs.declared.quote.Unmatched.{Unmatched}
use Rattle.text_core.specs.Reading.{moment_in, number_in, number16_in, price_in, unmatched_in, word_at}
use Rattle.text_core.proofs.Fields.{moment_again, number_again, number16_again, price_again, unmatched_again}
use Rattle.text_core.proofs.Plain.{plain, time_plain, decimal_plain, price_plain, unmatched_plain}
use Rattle.text_core.proofs.Words.{ArePlain, word_is, found}
use Rattle.cross_chart.specs.declared.line.CrossLine.{CrossLine}
use Rattle.cross_chart.specs.declared.line.CrossLine.TheVariants.{Indication, Volume, Imbalance, Compared, Fill}
use Rattle.cross_chart.specs.Lines.{words_of, line_text, HasTypes, Says}
use Rattle.cross_chart.specs.InternalReading.{indication_of, row_of, taken_for}

words_plain : (x : CrossLine) → HasTypes x → ArePlain (words_of x)
words_plain (Indication m s p u) h = (plain _ refl, (time_plain m, (decimal_plain s (omega (arith, h.1)), (price_plain p (omega (arith, h.2.most)), (unmatched_plain u, tt)))))
words_plain (Volume n) h = (plain _ refl, (decimal_plain n h, tt))
words_plain (Imbalance n) h = (plain _ refl, (decimal_plain n h, tt))
words_plain (Compared row) h = (plain _ refl, (price_plain row.price (omega (arith, h.0.most)), (decimal_plain row.buy h.1, (decimal_plain row.sell h.2, tt))))
words_plain (Fill n) h = (plain _ refl, (decimal_plain n h, tt))

indication_found : (m s p : ℕ) (u : Unmatched) → HasTypes (Indication m s p u) → indication_of (line_text (Indication m s p u)) ≡ Some (Indication m s p u)
unfolding indication_of
indication_found m s p u h =
    let words = words_of (Indication m s p u) in
    let all = words_plain (Indication m s p u) h in
    let at_1 = found moment_in m 1 words all (moment_again m h.0) in
    let at_2 = found number16_in s 2 words all (number16_again s h.1) in
    let at_3 = found price_in p 3 words all (price_again p h.2) in
    let at_4 = found unmatched_in u 4 words all (unmatched_again u) in
    rw (at_1, at_2, at_3, at_4) refl

row_found : (row : RowOf) → HasTypes (Compared row) → row_of (line_text (Compared row)) ≡ Some (Compared row)
unfolding row_of
row_found row h =
    let words = words_of (Compared row) in
    let all = words_plain (Compared row) h in
    let at_1 = found price_in row.price 1 words all (price_again row.price h.0) in
    let at_2 : number_in (word_at 2 (line_text (Compared row))) ≡ row.buy = ap number_in (word_is 2 words all) ∙ number_again row.buy h.1 in
    let at_3 : number_in (word_at 3 (line_text (Compared row))) ≡ row.sell = ap number_in (word_is 3 words all) ∙ number_again row.sell h.2 in
    rw (at_1, at_2, at_3) refl

typed : (x : CrossLine) → HasTypes x → taken_for (line_text x) ≡ Some x
unfolding taken_for
typed (Indication m s p u) h = rw (word_is 0 (words_of (Indication m s p u)) (words_plain (Indication m s p u) h)) (indication_found m s p u h)
typed (Volume n) h =
    let all = words_plain (Volume n) h in
    rw (word_is 0 (words_of (Volume n)) all, ap number_in (word_is 1 (words_of (Volume n)) all) ∙ number_again n h) refl
typed (Imbalance n) h =
    let all = words_plain (Imbalance n) h in
    rw (word_is 0 (words_of (Imbalance n)) all, ap number_in (word_is 1 (words_of (Imbalance n)) all) ∙ number_again n h) refl
typed (Compared row) h = rw (word_is 0 (words_of (Compared row)) (words_plain (Compared row) h)) (row_found row h)
typed (Fill n) h =
    let all = words_plain (Fill n) h in
    rw (word_is 0 (words_of (Fill n)) all, ap number_in (word_is 1 (words_of (Fill n)) all) ∙ number_again n h) refl

line_found : (line : List ℕ) (x : CrossLine) → Says line x → taken_for line ≡ Some x
line_found line x p = ap taken_for p.text ∙ typed x p.types

-- a line that says something is read
pub nothing_read : {P : Type 0} (line : List ℕ) (x : CrossLine) (r : Option CrossLine) → r ≡ None → r ≡ taken_for line → Says line x → P
nothing_read line x r none is p = distinct x (sym none ∙ is ∙ line_found line x p) where
  distinct : {P : Type 0} (x : CrossLine) → ◌≡◌ {A = Option CrossLine} None (Some x) → P
  distinct x e = absurd cc

-- and it is read as that
pub same_read : (line : List ℕ) (x y : CrossLine) (r : Option CrossLine) → r ≡ Some y → r ≡ taken_for line → Says line x → y ≡ x
same_read line x y r some is p = same x y (sym some ∙ is ∙ line_found line x p) where
  same : (x y : CrossLine) → ◌≡◌ {A = Option CrossLine} (Some y) (Some x) → y ≡ x
  same x y e = cc

-- so it isn't refused
pub not_refused : {P : Type 0} (line : List ℕ) (x y : CrossLine) (b : Bool) → y ≡ x → b ≡ false → IsTrue b ↔ Says line y → Says line x → P
not_refused line x y b same failed answer p = distinct (sym failed ∙ answer.1 (subst (Says line) (sym same) p)) where
  distinct : {P : Type 0} → false ≡ true → P
  distinct e = absurd cc
