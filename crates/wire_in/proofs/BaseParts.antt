-- Names and ids, one after the other.
use Rattle.std.proofs.Common.{◌≡◌, ◌⊎◌, ℕ, ◌+◌, ◌<◌, ◌≤◌, Bool, true, false, not, List, [], ◌∷◌, ◌++◌, length, take, drop, get_or, refl, sym, ◌∙◌, ap, true≢false, arith}
use Rattle.std.specs.Prelude.{All, IsTrue, ◌↔◌, ◌&&◌, if◌then◌else◌, nat_lt, nat_le}
use Rattle.std.specs.List.{flat_map, list_any}
use Rattle.std.specs.Int.{w16, to_be_bytes}
use Rattle.std.specs.Str.{bytes_eq}
use Rattle.std.proofs.lemmas.Bool.Decides.{nat_tests}
use Rattle.std.proofs.lemmas.Grind.{flat_map-append}
use Rattle.std.proofs.lemmas.List.{append-nil, take-append-drop, take-take, drop-take, length-take, length-drop, take_more, at_drop_more}
use Rattle.std.proofs.lemmas.List.Elements.{All-nil, All-cons, All-head, All-tail, All-weaker}
use Rattle.wire_core.specs.Fields.{number}
use Rattle.wire_core.proofs.Cells.{IsBytes, IsBytes-drop, IsBytes-take, wide16}
use Rattle.wire_in.specs.Bases.{AreNew, AreRising}

-- a piece more of some bytes
take-piece : (k n : ℕ) (bytes : List ℕ) → take (n + k) bytes ≡ take n bytes ++ take k (drop n bytes)
take-piece k n bytes =
    sym (take-append-drop n (take (n + k) bytes))
    ∙ ap (λ (t : List ℕ). t ++ drop n (take (n + k) bytes)) (take-take n (n + k) bytes (omega arith))
    ∙ ap (λ (t : List ℕ). take n bytes ++ t) (drop-take n k bytes)

pub pieces_more : {X : Type 0} (f : X → List ℕ) (k : ℕ) (xs : List X) (x : X) (at : ℕ) (bytes : List ℕ)
    → flat_map f xs ≡ take at bytes → f x ≡ take k (drop at bytes) → flat_map f (xs ++ x ∷ []) ≡ take (at + k) bytes
pieces_more f k xs x at bytes before is =
    flat_map-append f xs (x ∷ [])
    ∙ (λ j. before j ++ append-nil (f x) j)
    ∙ ap (λ (t : List ℕ). take at bytes ++ t) is
    ∙ sym (take-piece k at bytes)

-- one element more of a list that is gone over
pub flat_more : {X : Type 0} (f : X → List ℕ) (xs : List X) (i : ℕ) (d : X) → i < length xs → flat_map f (take (i + 1) xs) ≡ flat_map f (take i xs) ++ f (get_or xs i d)
flat_more f xs i d lt =
    ap (flat_map f) (take_more xs i d lt)
    ∙ flat_map-append f (take i xs) (get_or xs i d ∷ [])
    ∙ ap (λ (t : List ℕ). flat_map f (take i xs) ++ t) (append-nil (f (get_or xs i d)))

-- two bytes spell the number that they are read as
pub two_spelled : (at : ℕ) (bytes : List ℕ) → IsBytes bytes → at + 2 ≤ length bytes → to_be_bytes w16 (number w16 at bytes) ≡ take 2 (drop at bytes)
two_spelled at bytes fits long =
    wide16.spelled (take 2 (drop at bytes)) (omega (arith, length-take 2 (drop at bytes), length-drop at bytes)) (IsBytes-take 2 (drop at bytes) (IsBytes-drop at bytes fits))

both : (a b : Bool) → (a && b) ≡ true → (a ≡ true) × (b ≡ true)
both true b e = (refl, e)
both false b e = absurd (true≢false (sym e))

-- Names

-- none of these names is among those before it, nor among these
abbrev pub are_new : List (List ℕ) → List (List ℕ) → Bool
are_new before [] = true
are_new before (name ∷ later) = not (list_any (bytes_eq name) before) && are_new (before ++ name ∷ []) later

opened : (b : Bool) → not b ≡ true → b ≡ false
opened true e = absurd (true≢false (sym e))
opened false e = refl

new-if : (before names : List (List ℕ)) → are_new before names ≡ true → AreNew before names
new-if before [] e = tt
new-if before (name ∷ later) e =
    let parts = both (not (list_any (bytes_eq name) before)) (are_new (before ++ name ∷ []) later) e in
    (opened (list_any (bytes_eq name) before) parts.0, new-if (before ++ name ∷ []) later parts.1)

if-new : (before names : List (List ℕ)) → AreNew before names → are_new before names ≡ true
if-new before [] new = refl
if-new before (name ∷ later) new = (λ i. not (new.0 i) && are_new (before ++ name ∷ []) later) ∙ if-new (before ++ name ∷ []) later new.1

pub new_decides : (r : Bool) (names : List (List ℕ)) → r ≡ are_new [] names → IsTrue r ↔ AreNew [] names
new_decides r names e = (λ holds. new-if [] names (sym e ∙ holds), λ new. e ∙ if-new [] names new)

new_step : (names : List (List ℕ)) (i : ℕ) → i < length names
    → are_new (take i names) (drop i names) ≡ (not (list_any (bytes_eq (get_or names i [])) (take i names)) && are_new (take (i + 1) names) (drop (i + 1) names))
new_step names i lt =
    at_drop_more (are_new (take i names)) names i [] lt
    ∙ ap (λ (t : List (List ℕ)). not (list_any (bytes_eq (get_or names i [])) (take i names)) && are_new t (drop (i + 1) names)) (sym (take_more names i [] lt))

-- the names that were seen, and the rest, once a name is seen
module _ (names keys : List (List ℕ)) (i : ℕ) (r : Bool) (lt : i < length names) (seen : keys ≡ take i names) (rest : are_new (take i names) (drop i names) ≡ are_new [] names)
    (added : r ≡ not (list_any (bytes_eq (get_or names i [])) keys)) where
  here : r ≡ not (list_any (bytes_eq (get_or names i [])) (take i names))
  here = added ∙ ap (λ (t : List (List ℕ)). not (list_any (bytes_eq (get_or names i [])) t)) seen

  pub seen_again : r ≡ false → false ≡ are_new [] names
  seen_again e = (λ k. (sym e ∙ here) k && are_new (take (i + 1) names) (drop (i + 1) names)) ∙ sym (new_step names i lt) ∙ rest

  pub rest_more : r ≡ true → are_new (take (i + 1) names) (drop (i + 1) names) ≡ are_new [] names
  rest_more e = (λ k. (sym e ∙ here) k && are_new (take (i + 1) names) (drop (i + 1) names)) ∙ sym (new_step names i lt) ∙ rest

  pub seen_more : (next : List (List ℕ)) → r ≡ true → next ≡ (if list_any (bytes_eq (get_or names i [])) keys then keys else keys ++ get_or names i [] ∷ []) → next ≡ take (i + 1) names
  seen_more next e is =
      is
      ∙ ap (λ (b : Bool). if b then keys else keys ++ get_or names i [] ∷ []) (opened (list_any (bytes_eq (get_or names i [])) keys) (sym added ∙ e))
      ∙ ap (λ (t : List (List ℕ)). t ++ get_or names i [] ∷ []) seen
      ∙ sym (take_more names i [] lt)

-- Ids

-- they rise from the first number on, and stay below the second
abbrev pub rises_from : ℕ → ℕ → List ℕ → Bool
rises_from least n [] = true
rises_from least n (s ∷ later) = nat_le least s && (nat_lt s n && rises_from (s + 1) n later)

is_le : (m n : ℕ) → nat_le m n ≡ true → m ≤ n
is_le m n e = grind (arith, nat_tests)

le_is : (m n : ℕ) → m ≤ n → nat_le m n ≡ true
le_is m n e = grind (arith, nat_tests)

is_lt : (m n : ℕ) → nat_lt m n ≡ true → m < n
is_lt m n e = grind (arith, nat_tests)

lt_is : (m n : ℕ) → m < n → nat_lt m n ≡ true
lt_is m n e = grind (arith, nat_tests)

record Rises (least n : ℕ) (ids : List ℕ) : Type 0 where
  rising : AreRising ids
  below : All (λ s. s < n) ids
  from : All (λ s. least ≤ s) ids

rises-if : (least n : ℕ) (ids : List ℕ) → rises_from least n ids ≡ true → Rises least n ids
rises-if least n [] e = record { rising = tt; below = All-nil (λ s. s < n); from = All-nil (λ s. least ≤ s) }
rises-if least n (s ∷ later) e =
    let first = both (nat_le least s) (nat_lt s n && rises_from (s + 1) n later) e in
    let second = both (nat_lt s n) (rises_from (s + 1) n later) first.1 in
    let rest = rises-if (s + 1) n later second.1 in
    let le = is_le least s first.0 in
    record {
      rising = (All-weaker (λ t. s + 1 ≤ t) (λ t. s < t) (λ t more. omega (arith, more)) later rest.from, rest.rising);
      below = All-cons (λ t. t < n) s later (is_lt s n second.0) rest.below;
      from = All-cons (λ t. least ≤ t) s later le (All-weaker (λ t. s + 1 ≤ t) (λ t. least ≤ t) (λ t more. omega (arith, more, le)) later rest.from);
    }

if-rises : (least n : ℕ) (ids : List ℕ) → Rises least n ids → rises_from least n ids ≡ true
if-rises least n [] r = refl
if-rises least n (s ∷ later) r =
    let le = le_is least s (All-head (λ t. least ≤ t) s later r.from) in
    let lt = lt_is s n (All-head (λ t. t < n) s later r.below) in
    let rest = if-rises (s + 1) n later (record {
      rising = r.rising.1;
      below = All-tail (λ t. t < n) s later r.below;
      from = All-weaker (λ t. s < t) (λ t. s + 1 ≤ t) (λ t more. omega (arith, more)) later r.rising.0;
    }) in
    λ i. le i && (lt i && rest i)

all-least : (ids : List ℕ) → All (λ s. 0 ≤ s) ids
all-least [] = All-nil (λ s. 0 ≤ s)
all-least (s ∷ ids) = All-cons (λ s. 0 ≤ s) s ids (omega arith) (all-least ids)

pub rises_decides : (r : Bool) (n : ℕ) (ids : List ℕ) → r ≡ rises_from 0 n ids → IsTrue r ↔ (AreRising ids × All (λ s. s < n) ids)
rises_decides r n ids e = (
  λ holds. let rises = rises-if 0 n ids (sym e ∙ holds) in (rises.rising, rises.below),
  λ parts. e ∙ if-rises 0 n ids (record { rising = parts.0; below = parts.1; from = all-least ids }),
)

pub rises_step : (least n : ℕ) (ids : List ℕ) (i : ℕ) → i < length ids
    → rises_from least n (drop i ids) ≡ (nat_le least (get_or ids i 0) && (nat_lt (get_or ids i 0) n && rises_from (get_or ids i 0 + 1) n (drop (i + 1) ids)))
rises_step least n ids i lt = at_drop_more (rises_from least n) ids i 0 lt

pub rises_on : (least n s : ℕ) (rest : Bool) → least ≤ s → s < n → (nat_le least s && (nat_lt s n && rest)) ≡ rest
rises_on least n s rest le lt = λ i. le_is least s le i && (lt_is s n lt i && rest)

pub rises_no : (least n s : ℕ) (rest : Bool) → (s < least) ⊎ (n ≤ s) → (nat_le least s && (nat_lt s n && rest)) ≡ false
rises_no least n s true h = grind (arith, nat_tests)
rises_no least n s false h = grind (arith, nat_tests)
