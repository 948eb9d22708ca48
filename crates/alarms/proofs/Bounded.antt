-- Bounds stay bounds where a moment is set or added, and where a bound is made exact.
use Rattle.std.proofs.Common.{◌≡◌, ℕ, zero, suc, Bool, true, false, ◌+◌, ◌-◌, ◌*◌, ◌<◌, ◌≤◌, ◌^◌, List, [], ◌∷◌, ◌++◌, length, replicate, take, drop, min, eqb, slice_index, refl, ap, subst, ◌∙◌, arith, ltb, length-append, length-drop}
use Rattle.std.specs.Prelude.{◌/◌, slice_set}
use Rattle.std.proofs.Math.ListN.{get_or-append}
use Rattle.std.proofs.Math.Seq.{get_or-append_seam}
use Rattle.std.proofs.lemmas.Bool.Decides.{nat_tests}
use Rattle.std.proofs.lemmas.List.{get_or-drop, get_or-replicate, get_or-set_other, get_or-set_same, get_or-take, length-replicate, length-set, length-take, set-set}
use Rattle.std.specs.Int.{div_ceil}
use Rattle.alarms.specs.Bounds.{AreBounds, AreLevels, AtMostEach, IsLeast}

-- what a list says behind a set
set_other : (xs : List ℕ) (at k x : ℕ) → eqb k at ≡ false → slice_index (slice_set xs at x) k ≡ slice_index xs k
set_other xs at k x apart = get_or-set_other xs at k x 0 (grind (arith, nat_tests))

set_same : (xs : List ℕ) (at k x : ℕ) → at < length xs → eqb k at ≡ true → slice_index (slice_set xs at x) k ≡ x
set_same xs at k x lt same =
    let here : k ≡ at = grind (arith, nat_tests) in
    ap (λ (b : ℕ). slice_index (slice_set xs at x) b) here ∙ get_or-set_same xs at x 0 lt

set_lower : (xs : List ℕ) (at k x : ℕ) → at < length xs → x ≤ slice_index xs at → slice_index (slice_set xs at x) k ≤ slice_index xs k
set_lower xs at k x lt low = by (eqb k at) refl where
  by : (b : Bool) → eqb k at ≡ b → slice_index (slice_set xs at x) k ≤ slice_index xs k
  by true same =
      let here : k ≡ at = grind (arith, nat_tests) in
      let own : slice_index xs k ≡ slice_index xs at = ap (λ (b : ℕ). slice_index xs b) here in
      let set = set_same xs at k x lt same in
      omega arith
  by false apart = let set = set_other xs at k x apart in omega arith

-- the bound of 8 places becomes a better one
pub exact : (block least : ℕ) (bounds moments : List ℕ) → AreBounds bounds moments → block < length bounds → IsLeast least (8 * block) (8 * block + 8) moments → AreBounds (slice_set bounds block least) moments
exact block least bounds moments are lt is = record {
  enough = omega (arith, length-set bounds block least, are.enough);
  few = omega (arith, length-set bounds block least, are.few);
  below = λ place within. by place within (eqb (place / 8) block) refl;
} where
  by : (place : ℕ) → place < length moments → (b : Bool) → eqb (place / 8) block ≡ b → slice_index (slice_set bounds block least) (place / 8) ≤ slice_index moments place
  by place within true same =
      let own : place / 8 ≡ block = grind (arith, nat_tests) in
      let at = set_same bounds block (place / 8) least lt same in
      let low = is.below place (omega arith) (omega arith) within in
      omega arith
  by place within false apart =
      let at = set_other bounds block (place / 8) least apart in
      let low = are.below place within in
      omega arith

-- a moment is set that is not before its bound
pub set_place : (bounds moments : List ℕ) (place moment : ℕ) → AreBounds bounds moments → slice_index bounds (place / 8) ≤ moment → AreBounds bounds (slice_set moments place moment)
set_place bounds moments place moment are low = record {
  enough = omega (arith, length-set moments place moment, are.enough);
  few = omega (arith, length-set moments place moment, are.few);
  below = λ k within. by k (omega (arith, length-set moments place moment)) (eqb k place) refl;
} where
  by : (k : ℕ) → k < length moments → (b : Bool) → eqb k place ≡ b → slice_index bounds (k / 8) ≤ slice_index (slice_set moments place moment) k
  by k within true same =
      let here : k ≡ place = grind (arith, nat_tests) in
      let at = set_same moments place k moment (omega arith) same in
      let own : slice_index bounds (k / 8) ≡ slice_index bounds (place / 8) = ap (λ (b : ℕ). slice_index bounds (b / 8)) here in
      omega arith
  by k within false apart =
      let at = set_other moments place k moment apart in
      let below = are.below k within in
      omega arith

-- a moment is set, and its bound is lowered to be at most it
pub set_both : (bounds moments : List ℕ) (place low moment : ℕ) → AreBounds bounds moments → place < length moments → low ≤ slice_index bounds (place / 8) → low ≤ moment
    → AreBounds (slice_set bounds (place / 8) low) (slice_set moments place moment)
set_both bounds moments place low moment are lt low_bound low_moment =
    let enough = are.enough in
    let block : place / 8 < length bounds = omega arith in
    let lowered : AreBounds (slice_set bounds (place / 8) low) moments = record {
      enough = omega (arith, length-set bounds (place / 8) low, are.enough);
      few = omega (arith, length-set bounds (place / 8) low, are.few);
      below = λ k within. omega (arith, are.below k within, set_lower bounds (place / 8) (k / 8) low block low_bound);
    } in
    let at = get_or-set_same bounds (place / 8) low 0 block in
    set_place (slice_set bounds (place / 8) low) moments place moment lowered (omega arith)

-- a moment is set, and its bound is made exact
pub set_exact : (bounds moments : List ℕ) (place least moment : ℕ) → AreBounds bounds moments → place < length moments → IsLeast least (8 * (place / 8)) (8 * (place / 8) + 8) (slice_set moments place moment)
    → AreBounds (slice_set bounds (place / 8) least) (slice_set moments place moment)
set_exact bounds moments place least moment are lt is =
    let block : place / 8 < length bounds = omega (arith, lt, are.enough) in
    let any : AreBounds (slice_set bounds (place / 8) 0) (slice_set moments place moment) = set_both bounds moments place 0 moment are lt (omega arith) (omega arith) in
    subst (λ (b : List ℕ). AreBounds b (slice_set moments place moment)) (set-set bounds (place / 8) 0 least)
    (exact (place / 8) least (slice_set bounds (place / 8) 0) (slice_set moments place moment) any (omega (arith, block, length-set bounds (place / 8) 0)) is)

-- a bound of a group stays one where a bound below it rises to the least of its places
pub raised : (block least : ℕ) (groups bounds moments : List ℕ) → AreBounds bounds moments → AreBounds groups bounds → block < length bounds → slice_index bounds block < 2 ^ 64
    → IsLeast least (8 * block) (8 * block + 8) moments → AreBounds groups (slice_set bounds block least)
raised block least groups bounds moments are above lt small is =
    let low : slice_index bounds block ≤ least = is.greatest (slice_index bounds block) small (each block bounds moments are) in
    let group_low = above.below block lt in
    set_place groups bounds block least above (omega arith)
  where
    each : (block : ℕ) (bounds moments : List ℕ) → AreBounds bounds moments → AtMostEach (slice_index bounds block) (8 * block) (8 * block + 8) moments
    each block bounds moments are = λ place after before within.
        let own : place / 8 ≡ block = omega arith in
        let at : slice_index bounds (place / 8) ≡ slice_index bounds block = ap (λ (b : ℕ). slice_index bounds b) own in
        let low = are.below place within in
        omega arith

-- a moment is added to a block that has a bound, which is lowered to be at most it
pub added : (bounds moments : List ℕ) (low moment : ℕ) → AreBounds bounds moments → length moments / 8 < length bounds → low ≤ slice_index bounds (length moments / 8) → low ≤ moment
    → AreBounds (slice_set bounds (length moments / 8) low) (moments ++ moment ∷ [])
added bounds moments low moment are lt low_bound low_moment = record {
  enough = omega (arith, length-set bounds (length moments / 8) low, more, are.enough);
  few = omega (arith, length-set bounds (length moments / 8) low, more, are.few);
  below = λ k within. by k (omega (arith, more)) (eqb k (length moments)) refl;
} where
  more : length (moments ++ moment ∷ []) ≡ length moments + 1
  more = length-append moments (moment ∷ [])

  by : (k : ℕ) → k < length moments + 1 → (b : Bool) → eqb k (length moments) ≡ b → slice_index (slice_set bounds (length moments / 8) low) (k / 8) ≤ slice_index (moments ++ moment ∷ []) k
  by k within true same =
      let here : k ≡ length moments = grind (arith, nat_tests) in
      let own : slice_index (slice_set bounds (length moments / 8) low) (k / 8) ≡ slice_index (slice_set bounds (length moments / 8) low) (length moments / 8)
      = ap (λ (b : ℕ). slice_index (slice_set bounds (length moments / 8) low) (b / 8)) here in
      let at = get_or-set_same bounds (length moments / 8) low 0 lt in
      let last : slice_index (moments ++ moment ∷ []) k ≡ moment = ap (λ (b : ℕ). slice_index (moments ++ moment ∷ []) b) here ∙ get_or-append_seam moments moment [] 0 in
      omega arith
  by k within false apart =
      let before : k < length moments = grind (arith, nat_tests) in
      let kept = get_or-append moments (moment ∷ []) 0 k before in
      let below = are.below k before in
      let lower = set_lower bounds (length moments / 8) (k / 8) low lt low_bound in
      omega arith

-- a moment is added behind full blocks
pub added_block : (bounds moments : List ℕ) (moment : ℕ) → AreBounds bounds moments → length bounds ≤ length moments / 8 → AreBounds (bounds ++ moment ∷ []) (moments ++ moment ∷ [])
added_block bounds moments moment are full = record {
  enough = omega (arith, longer, more, are.enough);
  few = omega (arith, longer, more, are.few);
  below = λ k within. by k (omega (arith, more)) (eqb k (length moments)) refl;
} where
  longer : length (bounds ++ moment ∷ []) ≡ length bounds + 1
  longer = length-append bounds (moment ∷ [])

  more : length (moments ++ moment ∷ []) ≡ length moments + 1
  more = length-append moments (moment ∷ [])

  by : (k : ℕ) → k < length moments + 1 → (b : Bool) → eqb k (length moments) ≡ b → slice_index (bounds ++ moment ∷ []) (k / 8) ≤ slice_index (moments ++ moment ∷ []) k
  by k within true same =
      let here : k ≡ length moments = grind (arith, nat_tests) in
      let enough = are.enough in
      let block : k / 8 ≡ length bounds = omega arith in
      let at : slice_index (bounds ++ moment ∷ []) (k / 8) ≡ moment = ap (λ (b : ℕ). slice_index (bounds ++ moment ∷ []) b) block ∙ get_or-append_seam bounds moment [] 0 in
      let last : slice_index (moments ++ moment ∷ []) k ≡ moment = ap (λ (b : ℕ). slice_index (moments ++ moment ∷ []) b) here ∙ get_or-append_seam moments moment [] 0 in
      omega arith
  by k within false apart =
      let before : k < length moments = grind (arith, nat_tests) in
      let enough = are.enough in
      let kept = get_or-append moments (moment ∷ []) 0 k before in
      let held = get_or-append bounds (moment ∷ []) 0 (k / 8) (omega arith) in
      let below = are.below k before in
      omega arith

-- the least of numbers and of one more
pub least-more : (least i : ℕ) (numbers : List ℕ) → IsLeast least 0 i numbers → i < length numbers → IsLeast (min least (slice_index numbers i)) 0 (i + 1) numbers
least-more least i numbers is lt = record {
  below = λ place after before within. by place before within (eqb place i) refl;
  greatest = λ low small each. omega (arith, is.greatest low small (λ place after before within. each place after (omega arith) within), each i (omega arith) (omega arith) lt);
} where
  by : (place : ℕ) → place < i + 1 → place < length numbers → (b : Bool) → eqb place i ≡ b → min least (slice_index numbers i) ≤ slice_index numbers place
  by place before within true same =
      let here : place ≡ i = grind (arith, nat_tests) in
      let own : slice_index numbers place ≡ slice_index numbers i = ap (λ (b : ℕ). slice_index numbers b) here in
      omega arith
  by place before within false apart =
      let less : place < i = grind (arith, nat_tests) in
      let low = is.below place (omega arith) less within in
      omega arith

-- the rest of a slice from a place on, as the code takes it
abbrev rest_of : ℕ → List ℕ → List ℕ
rest_of first numbers = take (length numbers - first) (drop first numbers)

pub rest-at : (first k : ℕ) (numbers : List ℕ) → first + k < length numbers → slice_index (rest_of first numbers) k ≡ slice_index numbers (first + k)
rest-at first k numbers lt = get_or-take (length numbers - first) (drop first numbers) k 0 (omega arith) ∙ get_or-drop first numbers k 0

pub rest-length : (first : ℕ) (numbers : List ℕ) → length (rest_of first numbers) ≡ length numbers - first
rest-length first numbers =
    let dropped : length (drop first numbers) ≡ length numbers - first = length-drop first numbers in
    let rest : length (rest_of first numbers) ≡ min (length numbers - first) (length (drop first numbers)) = length-take (length numbers - first) (drop first numbers) in
    omega arith

-- the least of a part is that of its places
of_part : (first least : ℕ) (part numbers : List ℕ) → first ≤ length numbers → length part ≡ min (length numbers - first) 8 → ((k : ℕ) → k < length part → slice_index part k ≡ slice_index numbers (first + k))
    → IsLeast least 0 (length part) part → IsLeast least first (first + 8) numbers
of_part first least part numbers within size same is = record {
  below = λ place after before lt.
      let own = same (place - first) (omega arith) in
      let here : first + (place - first) ≡ place = omega arith in
      let at : slice_index numbers (first + (place - first)) ≡ slice_index numbers place = ap (λ (b : ℕ). slice_index numbers b) here in
      let low = is.below (place - first) (omega arith) (omega arith) (omega arith) in
      omega arith;
  greatest = λ low small each. is.greatest low small (λ k after before lt.
      let own = same k lt in
      let all = each (first + k) (omega arith) (omega arith) (omega arith) in
      omega arith);
}

pub least-few : (first least : ℕ) (numbers : List ℕ) → first ≤ length numbers → length (rest_of first numbers) < 8
    → IsLeast least 0 (length (rest_of first numbers)) (rest_of first numbers) → IsLeast least first (first + 8) numbers
least-few first least numbers within few is =
    let size = rest-length first numbers in
    of_part first least (rest_of first numbers) numbers within (omega arith) (λ k lt. rest-at first k numbers (omega arith)) is

pub least-eight : (first least : ℕ) (numbers : List ℕ) → first ≤ length numbers → 8 ≤ length (rest_of first numbers)
    → IsLeast least 0 (length (take 8 (rest_of first numbers))) (take 8 (rest_of first numbers)) → IsLeast least first (first + 8) numbers
least-eight first least numbers within many is =
    let size = rest-length first numbers in
    let taken : length (take 8 (rest_of first numbers)) ≡ min 8 (length (rest_of first numbers)) = length-take 8 (rest_of first numbers) in
    of_part first least (take 8 (rest_of first numbers)) numbers within (omega arith)
    (λ k lt. get_or-take 8 (rest_of first numbers) k 0 (omega arith) ∙ rest-at first k numbers (omega arith)) is

-- the first numbers, so many, are 0

abbrev pub cleared : ℕ → List ℕ → List ℕ
cleared count numbers = replicate count 0 ++ drop count numbers

pub cleared-length : (count : ℕ) (numbers : List ℕ) → count ≤ length numbers → length (cleared count numbers) ≡ length numbers
cleared-length count numbers within =
    let both = length-append (replicate count 0) (drop count numbers) in
    let first : length (replicate {A = ℕ} count 0) ≡ count = length-replicate count 0 in
    let rest = length-drop count numbers in
    omega arith

cleared-none : (count place : ℕ) → slice_index (replicate count 0 ++ []) place ≡ 0
cleared-none zero place = refl
cleared-none (suc count) zero = refl
cleared-none (suc count) (suc place) = cleared-none count place

cleared-lower : (count place : ℕ) (numbers : List ℕ) → slice_index (cleared count numbers) place ≤ slice_index numbers place
cleared-lower zero place numbers = omega arith
cleared-lower (suc count) zero numbers = omega arith
cleared-lower (suc count) (suc place) [] = omega (arith, cleared-none count place)
cleared-lower (suc count) (suc place) (n ∷ numbers) = cleared-lower count place numbers

cleared-first : (count place : ℕ) (numbers : List ℕ) → place < count → slice_index (cleared count numbers) place ≡ 0
cleared-first zero place numbers lt = absurd (omega (arith, lt))
cleared-first (suc count) zero numbers lt = refl
cleared-first (suc count) (suc place) [] lt = cleared-none count place
cleared-first (suc count) (suc place) (n ∷ numbers) lt = cleared-first count place numbers (omega (arith, lt))

cleared-behind : (count place : ℕ) (numbers : List ℕ) → count ≤ place → slice_index (cleared count numbers) place ≡ slice_index numbers place
cleared-behind zero place numbers le = refl
cleared-behind (suc count) zero numbers le = absurd (omega (arith, le))
cleared-behind (suc count) (suc place) [] le = cleared-none count place
cleared-behind (suc count) (suc place) (n ∷ numbers) le = cleared-behind count place numbers (omega (arith, le))

-- the bounds of blocks of which a place is made 0 are made 0 too
pub cleared_both : (bounds moments : List ℕ) (blocks count : ℕ) → AreBounds bounds moments → count ≤ length moments → count ≤ 8 * blocks → 8 * blocks < count + 8
    → AreBounds (cleared blocks bounds) (cleared count moments)
cleared_both bounds moments blocks count are within enough few = record {
  enough = omega (arith, same, own, are.enough);
  few = omega (arith, same, own, are.few);
  below = λ place lt. by place (omega (arith, same, lt)) (ltb place count) refl;
} where
  same : length (cleared count moments) ≡ length moments
  same = cleared-length count moments within

  own : length (cleared blocks bounds) ≡ length bounds
  own = cleared-length blocks bounds (omega (arith, are.enough, within, few))

  by : (place : ℕ) → place < length moments → (b : Bool) → ltb place count ≡ b → slice_index (cleared blocks bounds) (place / 8) ≤ slice_index (cleared count moments) place
  by place lt true before =
      let less : place < count = grind (arith, nat_tests) in
      let none = cleared-first blocks (place / 8) bounds (omega arith) in
      omega arith
  by place lt false behind =
      let after : count ≤ place = grind (arith, nat_tests) in
      let kept = cleared-behind count place moments after in
      let lower = cleared-lower blocks (place / 8) bounds in
      let low = are.below place lt in
      omega arith

-- where all moments are one, so may all bounds be

equal_bounds : (moment blocks count : ℕ) → count ≤ 8 * blocks → 8 * blocks < count + 8 → AreBounds (replicate blocks moment) (replicate count moment)
equal_bounds moment blocks count enough few =
    let above = length-replicate blocks moment in
    let below = length-replicate count moment in
    record {
      enough = omega (arith, above, below, enough);
      few = omega (arith, above, below, few);
      below = λ place within. omega (arith, get_or-replicate blocks (place / 8) moment 0 (omega (arith, within, below, enough)), get_or-replicate count place moment 0 (omega (arith, within, below)));
    }

pub equal_levels : (moment groups blocks count : ℕ) → blocks ≡ div_ceil count 8 → groups ≡ div_ceil blocks 8 → AreLevels (replicate groups moment) (replicate blocks moment) (replicate count moment)
equal_levels moment groups blocks count is are = record {
  of_places = equal_bounds moment blocks count (omega (arith, is)) (omega (arith, is));
  of_bounds = equal_bounds moment groups blocks (omega (arith, are)) (omega (arith, are));
}
