-- What is left of lists that rise, while they are woven.
use Rattle.std.proofs.Common.{◌≡◌, ℕ, zero, suc, ◌+◌, ◌<◌, ◌≤◌, ◌≢◌, List, [], ◌∷◌, ◌++◌, length, set, drop, get_or, sym, refl, ap, ◌∙◌, subst, arith}
use Rattle.std.proofs.lemmas.List.Elements.{All-head, All-tail, All-set, All-map, All-nil}
use Rattle.std.proofs.lemmas.List.Folds.{flat_map-map}
use Rattle.std.proofs.lemmas.List.{append-nil, append_assoc, length-append, length-map, get_or-map, get_or_read, drop_more}
use mathlib.Core.Logic.{dite}
use native.Mathlib.Decide.{ℕ_discrete}
use Rattle.std.specs.Prelude.{All, flat_map}
use Rattle.std.specs.List.{AllWithin}
use Rattle.std.specs.List.Sorted.{IsNonDecreasingBy}
use Rattle.std.specs.Borrow.{Bor}
use Rattle.merge_core.specs.declared.tagged.Tagged.{Tagged}
use Rattle.merge_core.specs.Merged.{of_input, merged, further, AreOfFirst, GoesOn}
use Rattle.merge_core.specs.Weaving.{Lists, nows, all_of, Rise, GivesNext, IsFirstOfLeast}
use Rattle.merge_core.proofs.InOrder.{by_inputs, joined, of_input-here, of_input-else, none_of, none_before, merged_is, all_joined}

-- the messages of one input
abbrev at_input : ℕ → Lists → List Tagged
at_input n lists = flat_map (λ list. of_input n list.now) lists

-- a list gives its first message: of other inputs nothing changes
else_same : (n nth : ℕ) (lists : Lists) (new : Bor (List Tagged)) (x : Tagged) → nth < length lists → (get_or lists nth new).now ≡ x ∷ new.now → x.input ≢ n
    → at_input n lists ≡ at_input n (set lists nth new)
else_same n nth [] new x lt at ne = absurd (omega (arith, lt))
else_same n zero (l ∷ ls) new x lt at ne = ap (λ (ys : List Tagged). ys ++ at_input n ls) (ap (of_input n) at ∙ of_input-else n x new.now ne)
else_same n (suc nth) (l ∷ ls) new x lt at ne = ap (λ (ys : List Tagged). of_input n l.now ++ ys) (else_same n nth ls new x (omega arith) at ne)

-- and of its own input it was the first
its_first : (n nth : ℕ) (lists : Lists) (new : Bor (List Tagged)) (x : Tagged) → nth < length lists → (get_or lists nth new).now ≡ x ∷ new.now → x.input ≡ n
    → AllWithin (λ list. All (λ m. n < m.input) list.now) lists 0 nth → at_input n lists ≡ x ∷ at_input n (set lists nth new)
its_first n nth [] new x lt at is before = absurd (omega (arith, lt))
its_first n zero (l ∷ ls) new x lt at is before = ap (λ (ys : List Tagged). ys ++ at_input n ls) (ap (of_input n) at ∙ of_input-here n x new.now is)
its_first n (suc nth) (l ∷ ls) new x lt at is before =
    let none = none_of n l.now (before 0 l (omega arith) (omega arith)) in
    (λ i. none i ++ its_first n nth ls new x (omega arith) at is (λ k d low high. before (suc k) d (omega arith) (omega arith)) i)
    ∙ ap (λ (ys : List Tagged). x ∷ (ys ++ at_input n (set ls nth new))) (sym none)

one_less : (nth : ℕ) (lists : Lists) (new : Bor (List Tagged)) (x : Tagged) → nth < length lists → (get_or lists nth new).now ≡ x ∷ new.now
    → length (all_of lists) ≡ length (all_of (set lists nth new)) + 1
one_less nth [] new x lt at = absurd (omega (arith, lt))
one_less zero (l ∷ ls) new x lt at = omega (arith, length-append l.now (all_of ls), length-append new.now (all_of ls), ap length at)
one_less (suc nth) (l ∷ ls) new x lt at =
    omega (arith, length-append l.now (all_of ls), length-append l.now (all_of (set ls nth new)), one_less nth ls new x (omega arith) at)

none_yet : (n : ℕ) (lists : Lists) → All (λ list. All (λ m. n ≤ m.input) list.now) lists → merged n (nows lists) ≡ []
none_yet n lists all = sym (merged_is n (nows lists))
    ∙ none_before n n (joined (nows lists)) (omega arith) (all_joined (λ m. n ≤ m.input) (nows lists) (All-map (All (λ (m : Tagged). n ≤ m.input)) (λ list. list.now) lists all))

-- the next message, and then those that are left
next_is : (n nth least : ℕ) (lists : Lists) (new : Bor (List Tagged)) (x : Tagged) → GivesNext nth (length lists) least lists → (get_or lists nth new).now ≡ x ∷ new.now
    → x.input ≡ least → least < n → merged n (nows lists) ≡ x ∷ merged n (nows (set lists nth new))
unfolding merged
next_is zero nth least lists new x g at is lt = absurd (omega (arith, lt))
next_is (suc n) nth least lists new x g at is lt =
    let here = flat_map-map (of_input n) (λ (list : Bor (List Tagged)). list.now) lists in
    let there = flat_map-map (of_input n) (λ (list : Bor (List Tagged)). list.now) (set lists nth new) in
    dite (ℕ_discrete least n)
    (λ same.
    let all : All (λ list. All (λ m. n ≤ m.input) list.now) lists = λ k d lt. subst (λ b. All (λ (m : Tagged). b ≤ m.input) (get_or lists k d).now) same (g.all k d (omega arith) lt) in
    let rest : All (λ m. n ≤ m.input) new.now = All-tail (λ (m : Tagged). n ≤ m.input) x new.now (subst (All (λ (m : Tagged). n ≤ m.input)) at (all nth new g.within)) in
    let left = All-set (λ (list : Bor (List Tagged)). All (λ (m : Tagged). n ≤ m.input) list.now) lists nth new rest all in
    let before = subst (λ b. AllWithin (λ (list : Bor (List Tagged)). All (λ (m : Tagged). b < m.input) list.now) lists 0 nth) same g.before in
    (λ i. none_yet n lists all i ++ (here ∙ its_first n nth lists new x g.within at (is ∙ same) before) i)
    ∙ sym (λ i. x ∷ (none_yet n (set lists nth new) left i ++ there i)))
    (λ ne. (λ i. next_is n nth least lists new x g at is (omega arith) i
    ++ (here ∙ (else_same n nth lists new x g.within at (λ e. absurd (omega (arith, e, is, ne (sym is ∙ e)))) ∙ sym there)) i))

-- what is left of lists, and what was appended of them
pub record Woven (first : ℕ) (whole : List (List Tagged)) (left : Lists) (before now : List Tagged) : Type 0 where
  pub rise : Rise left
  pub behind : GoesOn before now
  pub few : (inputs : ℕ) → AreOfFirst inputs whole → All (λ list. All (λ m. m.input < inputs) list.now) left
  pub rest : (inputs : ℕ) → AreOfFirst inputs whole → before ++ further first (merged inputs whole) ≡ now ++ further first (merged inputs (nows left))

pub goes_on : (first nth : ℕ) (whole : List (List Tagged)) (left : Lists) (before now : List Tagged) (new : Bor (List Tagged)) (x : Tagged)
    → Woven first whole left before now → IsFirstOfLeast left nth → (get_or left nth new).now ≡ x ∷ new.now
    → Woven first whole (set left nth new) before (now ++ further first (x ∷ []))
goes_on first nth whole left before now new x w f at =
    let within = f.gives.within in
    let least : x.input ≡ f.least = ap (λ (xs : List Tagged). (get_or xs 0 x).input) (sym at) ∙ f.gives.next new x in
    let rises : IsNonDecreasingBy (λ m. m.input) (x ∷ new.now) = subst (IsNonDecreasingBy (λ (m : Tagged). m.input)) at (w.rise nth new within) in
    let few_of : (inputs : ℕ) → AreOfFirst inputs whole → All (λ m. m.input < inputs) (x ∷ new.now) = λ inputs few. subst (All (λ (m : Tagged). m.input < inputs)) at (w.few inputs few nth new within) in
    record {
      rise = All-set (λ (list : Bor (List Tagged)). IsNonDecreasingBy (λ (m : Tagged). m.input) list.now) left nth new (λ i j d le lt. rises (suc i) (suc j) d (omega arith) (omega arith)) w.rise;
      behind = record { more = w.behind.more ++ further first (x ∷ []); items = ap (λ (ys : List Tagged). ys ++ further first (x ∷ [])) w.behind.items ∙ append_assoc before w.behind.more (further first (x ∷ [])) };
      few = λ inputs few. All-set (λ (list : Bor (List Tagged)). All (λ (m : Tagged). m.input < inputs) list.now) left nth new (All-tail (λ (m : Tagged). m.input < inputs) x new.now (few_of inputs few)) (w.few inputs few);
      rest = λ inputs few.
          let lt = All-head (λ (m : Tagged). m.input < inputs) x new.now (few_of inputs few) in
          w.rest inputs few ∙ (ap (λ (ys : List Tagged). now ++ further first ys) (next_is inputs nth f.least left new x f.gives at least (omega (arith, lt, least)))
          ∙ sym (append_assoc now (further first (x ∷ [])) (further first (merged inputs (nows (set left nth new))))));
    }

-- at first all is left
pub starts : (first : ℕ) (lists : Lists) (before : List Tagged) → Rise lists → Woven first (nows lists) lists before before
starts first lists before rise = record {
  rise = rise;
  behind = record { more = []; items = sym (append-nil before) };
  few = λ inputs few k d lt. subst (All (λ (m : Tagged). m.input < inputs)) (get_or-map (λ (list : Bor (List Tagged)). list.now) lists k d d.now lt) (few k d.now (omega (arith, lt, length-map lists (λ (list : Bor (List Tagged)). list.now))));
  rest = λ inputs few. refl;
}

-- the list that is next gives its first message
pub gives : (lists : Lists) (nth : ℕ) (list new : Bor (List Tagged)) (m : Tagged) → IsFirstOfLeast lists nth → list ≡ get_or lists nth list → m ≡ get_or list.now 0 m → new.now ≡ drop 1 list.now
    → (get_or lists nth new).now ≡ m ∷ new.now
gives lists nth list new m f is first rest =
    let some : 0 < length list.now = subst (λ (l : Bor (List Tagged)). 0 < length l.now) (sym is) (f.gives.some list) in
    ap (λ (l : Bor (List Tagged)). l.now) (sym (get_or_read lists nth list f.gives.within is new)) ∙ (drop_more list.now 0 m some ∙ (λ i. sym first i ∷ sym rest i))

pub takes : (lists : Lists) (nth : ℕ) (list new : Bor (List Tagged)) (m : Tagged) → IsFirstOfLeast lists nth → list ≡ get_or lists nth list → m ≡ get_or list.now 0 m → new.now ≡ drop 1 list.now
    → length (all_of lists) ≡ length (all_of (set lists nth new)) + 1
takes lists nth list new m f is first rest = one_less nth lists new m f.gives.within (gives lists nth list new m f is first rest)

-- nothing is left
pub all_woven : (first : ℕ) (whole : List (List Tagged)) (left : Lists) (before now : List Tagged) → Woven first whole left before now → all_of left ≡ []
    → (inputs : ℕ) → AreOfFirst inputs whole → now ≡ before ++ further first (merged inputs whole)
all_woven first whole left before now w none inputs few =
    let empty : joined (nows left) ≡ [] = flat_map-map (λ xs. xs) (λ (list : Bor (List Tagged)). list.now) left ∙ none in
    let nothing : merged inputs (nows left) ≡ [] = sym (merged_is inputs (nows left)) ∙ (ap (by_inputs inputs) empty ∙ none_before inputs inputs [] (omega arith) (All-nil (λ (m : Tagged). inputs ≤ m.input))) in
    sym (append-nil now) ∙ (ap (λ (ys : List Tagged). now ++ further first ys) (sym nothing) ∙ sym (w.rest inputs few))
