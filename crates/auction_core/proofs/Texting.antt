-- Lines have one text.
use Rattle.std.proofs.Common.{◌≡◌, ◌≢◌, ◌⊎◌, inl, inr, ℕ, ◌+◌, ◌≤◌, Bool, true, false, List, [], ◌∷◌, length, refl, sym, subst, ◌∙◌, arith, true≢false}
use Rattle.std.specs.Prelude.{Option, Some, None, is_some, nat_le, ◌&&◌, bytes_eq}
use Rattle.std.proofs.lemmas.Bool.Decides.{nat_tests}
use Rattle.std.proofs.lemmas.Option.{same_Some}
use Rattle.host_core.specs.declared.status.Status.TheVariants.{Done}
use Rattle.wire_core.specs.Fields.{checked}
use Rattle.wire_core.specs.OptionSteps.{◌>>=◌}
use Rattle.cross_core.specs.declared.order.Order.{Order}
use Rattle.cross_core.specs.declared.order.Crossed.{Crossed}
use Rattle.cross_core.specs.Best.{IsCross}
use Rattle.cross_core.specs.Fills.{AreFills}
use Rattle.auction_core.specs.declared.auction.Auction.{Auction}
use Rattle.auction_core.specs.Lines.{line_of_auction}
use Rattle.auction_core.specs.Reading.{auction_of, auction_in, is_line_of_auction}
use Rattle.auction_core.specs.Texts.{IsTextFor, auction_at, cross_lines, end_of_lines, good_lines, orders_at, text_of_lines}
use Rattle.auction_core.specs.InternalReading.{has_bad}
use Rattle.auction_core.specs.Laws.{LinesHaveText, TextsAreSame}
use Rattle.auction_core.proofs.Crossing.{a_cross, are_some_fills, fills_from, same_cross, same_fills}
use Rattle.auction_core.proofs.Ending.{bad_is, end_bad, ends_good, ends_none}
use Rattle.auction_core.proofs.Listed.{first_bad}

-- the collars of an auction that is read are in order
checked_so : {A : Type 0} (t : Bool) (x y : A) → checked t x ≡ Some y → (t ≡ true) × (x ≡ y)
checked_so true x y is = (refl, same_Some x y is)
checked_so false x y is = absurd cc

in_order : (short order : Bool) (rest : Bool) → (short && (order && rest)) ≡ true → order ≡ true
in_order true true rest is = refl
in_order true false rest is = is
in_order false order rest is = absurd (true≢false (sym is))

taken_so : (line : List ℕ) (r : Option Auction) (a : Auction) → (r >>= (λ x. checked (is_line_of_auction line x) x)) ≡ Some a → a.collars.lower ≤ a.collars.upper
taken_so line None a is = absurd cc
taken_so line (Some x) a is =
    let both = checked_so (is_line_of_auction line x) x a is in
    let order : nat_le x.collars.lower x.collars.upper ≡ true = in_order (nat_le (length line) 255) (nat_le x.collars.lower x.collars.upper) (bytes_eq line (line_of_auction x)) both.0 in
    subst (λ (b : Auction). b.collars.lower ≤ b.collars.upper) both.1 (below x.collars.lower x.collars.upper order) where
      below : (l u : ℕ) → nat_le l u ≡ true → l ≤ u
      below l u is = grind (arith, nat_tests, is)

pub auction_order : (line : List ℕ) (a : Auction) → auction_in line ≡ Some a → a.collars.lower ≤ a.collars.upper
unfolding auction_in
auction_order line a is = taken_so line (auction_of line) a is

order_at : (lines : List (List ℕ)) (a : Auction) → auction_at lines ≡ Some a → a.collars.lower ≤ a.collars.upper
order_at [] a is = absurd cc
order_at (line ∷ lines) a is = auction_order line a is

-- the text of an auction and its orders
pub text_is_so : {a : Auction} {orders : List Order} {text : List ℕ} (crossed : Crossed) (fills : List ℕ) → IsCross a.reference a.collars orders crossed → AreFills crossed.price crossed.volume orders fills
    → IsTextFor a orders text → text_of_lines (cross_lines a crossed fills) ≡ text
text_is_so {a} {orders} {text} crossed fills is_cross are_fills is =
    let same = same_cross a.reference a.collars orders crossed is.crossed is_cross is.is_cross in
    let others = subst (λ (c : Crossed). AreFills c.price c.volume orders fills) same are_fills in
    (λ i. text_of_lines (cross_lines a (same i) (same_fills is.crossed.price is.crossed.volume orders fills is.fills others is.are_fills i))) ∙ sym is.text_is

pub a_text : (a : Auction) (orders : List Order) → a.collars.lower ≤ a.collars.upper → (text : List ℕ) × IsTextFor a orders text
a_text a orders order =
    let crossed = a_cross a.reference a.collars orders order in
    let fills = fills_from crossed.0.price crossed.0.volume orders [] orders in (
      text_of_lines (cross_lines a crossed.0 fills),
      record { crossed = crossed.0; fills = fills; is_cross = crossed.1; are_fills = are_some_fills crossed.0.price crossed.0.volume orders; text_is = refl },
    )

-- lines end with Done, or not
ends : (lines : List (List ℕ)) → (end_of_lines lines ≡ Done) ⊎ (end_of_lines lines ≢ Done)
ends [] = inr (bad_is 1)
ends (l ∷ ls) = by (has_bad (l ∷ ls)) refl (is_some (auction_at (l ∷ ls))) refl where
  by : (b : Bool) → has_bad (l ∷ ls) ≡ b → (s : Bool) → is_some (auction_at (l ∷ ls)) ≡ s → (end_of_lines (l ∷ ls) ≡ Done) ⊎ (end_of_lines (l ∷ ls) ≢ Done)
  by true bad s some = inr (λ done. bad_is (good_lines (l ∷ ls) + 1) (sym (end_bad (l ∷ ls) bad) ∙ done))
  by false good true some = inl (ends_good (l ∷ ls) some good)
  by false good false none = absurd (true≢false (sym (first_bad l ls none) ∙ good))

-- and have an auction where they do
auction_there : (lines : List (List ℕ)) → end_of_lines lines ≡ Done → (r : Option Auction) → auction_at lines ≡ r → (a : Auction) × (auction_at lines ≡ Some a)
auction_there lines done None none = absurd (bad_is 1 (sym (ends_none lines none) ∙ done))
auction_there lines done (Some a) is = (a, is)

pub lines_have_text : LinesHaveText
lines_have_text lines = elim (ends lines) [
  | inl done ↦
      let there = auction_there lines done (auction_at lines) refl in
      let text = a_text there.0 (orders_at lines) (order_at lines there.0 there.1) in (
        text.0,
        record {
          done = λ again b is. subst (λ (a : Auction). IsTextFor a (orders_at lines) text.0) (same_Some there.0 b (sym there.1 ∙ is)) text.1;
          bad = λ other. absurd (other done);
        },
      )
  | inr other ↦ ([], record { done = λ done. absurd (other done); bad = λ again. refl })
]

pub texts_are_same : TextsAreSame
texts_are_same lines text other first second = elim (ends lines) [
  | inl done ↦
      let there = auction_there lines done (auction_at lines) refl in
      let one = first.done done there.0 there.1 in
      one.text_is ∙ text_is_so one.crossed one.fills one.is_cross one.are_fills (second.done done there.0 there.1)
  | inr bad ↦ first.bad bad ∙ sym (second.bad bad)
]
