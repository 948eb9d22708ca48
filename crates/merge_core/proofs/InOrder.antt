-- Messages that are sorted by their inputs stand input by input.
use Rattle.std.proofs.Common.{◌≡◌, ℕ, zero, suc, ◌<◌, ◌≤◌, ◌≢◌, List, [], ◌∷◌, ◌++◌, map, sym, refl, ap, ◌∙◌, subst, eq-eqb, ne_eqb, arith}
use Rattle.std.proofs.lemmas.List.Elements.{All-nil, All-cons, All-head, All-tail, All-append, filter-append, filter_agree}
use Rattle.std.proofs.lemmas.List.Sorted.{All-permutation, length_permutation}
use Rattle.std.proofs.lemmas.List.{nil_from_length}
use Rattle.std.proofs.lemmas.Bool.Decides.{nat_tests}
use mathlib.Core.Logic.{dite}
use native.Mathlib.Decide.{ℕ_discrete}
use Rattle.std.specs.Prelude.{All, cond, not, ◌&&◌, ◌==◌, filter, flat_map}
use Rattle.std.specs.List.Sorted.{IsNonDecreasingBy, IsPermutation, IsStableByKey}
use Rattle.std.specs.Ordering.{nat_cmp, is_lt}
use Rattle.merge_core.specs.declared.tagged.Tagged.{Tagged}
use Rattle.merge_core.specs.Merged.{of_input, merged, AreOfFirst}

-- the messages of one list, input by input
abbrev pub by_inputs : ℕ → List Tagged → List Tagged
by_inputs zero xs = []
by_inputs (suc n) xs = by_inputs n xs ++ of_input n xs

pub of_input-here : (n : ℕ) (x : Tagged) (xs : List Tagged) → x.input ≡ n → of_input n (x ∷ xs) ≡ x ∷ of_input n xs
of_input-here n x xs is = ap (λ b. cond b (x ∷ of_input n xs) (of_input n xs)) (eq-eqb x.input n is)

pub of_input-else : (n : ℕ) (x : Tagged) (xs : List Tagged) → x.input ≢ n → of_input n (x ∷ xs) ≡ of_input n xs
of_input-else n x xs ne = ap (λ b. cond b (x ∷ of_input n xs) (of_input n xs)) (ne_eqb x.input n ne)

pub none_of : (n : ℕ) (xs : List Tagged) → All (λ m. n < m.input) xs → of_input n xs ≡ []
none_of n [] all = refl
none_of n (x ∷ xs) all =
    let above : n < x.input = All-head (λ (m : Tagged). n < m.input) x xs all in
    of_input-else n x xs (λ e. absurd (omega (arith, e))) ∙ none_of n xs (All-tail (λ (m : Tagged). n < m.input) x xs all)

pub none_before : (n k : ℕ) (xs : List Tagged) → k ≤ n → All (λ m. n ≤ m.input) xs → by_inputs k xs ≡ []
none_before n zero xs le all = refl
none_before n (suc k) xs le all = (λ i. none_before n k xs (omega arith) all i ++ none_of k xs (λ j d lt. let at = all j d lt in omega arith) i)

-- a message that comes before all others
first_one : (n : ℕ) (x : Tagged) (xs : List Tagged) → All (λ m. x.input ≤ m.input) xs → x.input < n → by_inputs n (x ∷ xs) ≡ x ∷ by_inputs n xs
first_one zero x xs later lt = absurd (omega arith)
first_one (suc n) x xs later lt = dite (ℕ_discrete x.input n)
    (λ same.
    let above : All (λ m. n ≤ m.input) xs = subst (λ k. All (λ (m : Tagged). k ≤ m.input) xs) same later in
    let none = none_before n n xs (omega arith) above in
    let none_yet = none_before n n (x ∷ xs) (omega arith) (All-cons (λ (m : Tagged). n ≤ m.input) x xs (omega (arith, same)) above) in
    (λ i. none_yet i ++ of_input-here n x xs same i) ∙ ap (λ (ys : List Tagged). x ∷ (ys ++ of_input n xs)) (sym none))
    (λ ne. (λ i. first_one n x xs later (omega arith) i ++ of_input-else n x xs ne i))

sorted_is : (n : ℕ) (xs : List Tagged) → IsNonDecreasingBy (λ m. m.input) xs → All (λ m. m.input < n) xs → by_inputs n xs ≡ xs
sorted_is n [] rises all = none_before n n [] (omega arith) (All-nil (λ (m : Tagged). n ≤ m.input))
sorted_is n (x ∷ xs) rises all =
    first_one n x xs (λ k d lt. rises 0 (suc k) d (omega arith) (omega arith)) (All-head (λ (m : Tagged). m.input < n) x xs all)
    ∙ ap (λ (ys : List Tagged). x ∷ ys) (sorted_is n xs (λ i j d le lt. rises (suc i) (suc j) d (omega arith) (omega arith)) (All-tail (λ (m : Tagged). m.input < n) x xs all))

same_inputs : (n : ℕ) (xs ys : List Tagged) → ((input : ℕ) → of_input input ys ≡ of_input input xs) → by_inputs n ys ≡ by_inputs n xs
same_inputs zero xs ys same = refl
same_inputs (suc n) xs ys same = (λ i. same_inputs n xs ys same i ++ same n i)

-- all lists, one behind the other
abbrev pub joined : List (List Tagged) → List Tagged
joined lists = flat_map (λ messages. messages) lists

of_joined : (n : ℕ) (lists : List (List Tagged)) → of_input n (joined lists) ≡ flat_map (of_input n) lists
of_joined n [] = refl
of_joined n (xs ∷ lists) = filter-append (λ (m : Tagged). m.input == n) xs (joined lists) ∙ ap (λ ys. of_input n xs ++ ys) (of_joined n lists)

pub merged_is : (n : ℕ) (lists : List (List Tagged)) → by_inputs n (joined lists) ≡ merged n lists
unfolding merged
merged_is zero lists = refl
merged_is (suc n) lists = (λ i. merged_is n lists i ++ of_joined n lists i)

pub all_joined : (P : Tagged → Type 0) (lists : List (List Tagged)) → All (All P) lists → All P (joined lists)
all_joined P [] all = All-nil P
all_joined P (xs ∷ lists) all = All-append P xs (joined lists) (All-head (All P) xs lists all) (all_joined P lists (All-tail (All P) xs lists all))

-- what a stable sort of all lists gives
pub merges : (lists : List (List Tagged)) (all sorted : List Tagged) → all ≡ joined lists → IsPermutation all sorted → IsNonDecreasingBy (λ m. m.input) sorted
    → ((input : ℕ) → of_input input sorted ≡ of_input input all) → (inputs : ℕ) → AreOfFirst inputs lists → sorted ≡ merged inputs lists
merges lists all sorted is moved rises same inputs few =
    let below = All-permutation (λ (m : Tagged). m.input < inputs) all sorted moved (subst (All (λ (m : Tagged). m.input < inputs)) (sym is) (all_joined (λ m. m.input < inputs) lists few)) in
    sym (sorted_is inputs sorted rises below) ∙ (same_inputs inputs all sorted same ∙ (ap (by_inputs inputs) is ∙ merged_is inputs lists))

-- a stable sort by inputs keeps the messages of each input in their order
ties_is : (a b : ℕ) → (not (is_lt (nat_cmp a b)) && not (is_lt (nat_cmp b a))) ≡ (b == a)
ties_is a b = grind (arith, nat_tests)

pub keeps_order : (xs ys : List Tagged) → IsPermutation xs ys → IsStableByKey (λ m. m.input) nat_cmp xs ys → (input : ℕ) → of_input input ys ≡ of_input input xs
keeps_order [] ys moved stable input = ap (of_input input) (nil_from_length ys (length_permutation [] ys moved))
keeps_order (x ∷ xs) ys moved stable input =
    let one : Tagged = record { input = input; stamped = x.stamped } in
    let agree : (zs : List Tagged) → filter (λ (m : Tagged). not (is_lt (nat_cmp input m.input)) && not (is_lt (nat_cmp m.input input))) zs ≡ of_input input zs
    = filter_agree _ (λ (m : Tagged). m.input == input) (λ m. ties_is input m.input) in
    sym (agree ys) ∙ (stable one ∙ agree (x ∷ xs))

-- the items of each part, one behind the other
pub parts_joined : {V : Type 0} (items : V → List Tagged) (parts : List V) → flat_map items parts ≡ joined (map items parts)
parts_joined items [] = refl
parts_joined items (p ∷ parts) = ap (λ ys. items p ++ ys) (parts_joined items parts)
