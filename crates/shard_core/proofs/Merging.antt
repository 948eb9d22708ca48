-- Messages of several parts, merged, are those of each record in order of parts.
use Rattle.std.proofs.Common.{◌≡◌, ℕ, zero, suc, ◌+◌, ◌<◌, Bool, false, cond, List, [], ◌∷◌, ◌++◌, length, append_assoc, refl, sym, ap, subst, ◌∙◌, arith}
use Rattle.std.specs.Prelude.{◌==◌, flat_map, map}
use Rattle.std.proofs.lemmas.Bool.Decides.{nat_tests}
use Rattle.std.proofs.lemmas.List.{append-nil, map-append}
use Rattle.std.proofs.lemmas.List.Elements.{filter-append}
use Rattle.wire_out.specs.declared.message.Stamped.{Stamped}
use Rattle.rulebook.proofs.Ids.{own_id}
use Rattle.merge_core.specs.declared.tagged.Tagged.{Tagged}
use Rattle.shard_core.specs.Block.{tagged}
use Rattle.merge_core.specs.Merged.{merged, of_input}
use Rattle.shard_core.specs.Turns.{tagged_from}

abbrev pub said_at : ℕ → List (List Stamped) → List Stamped
said_at index [] = []
said_at zero (said ∷ later) = said
said_at (suc index) (said ∷ later) = said_at index later

apart_indexes : (a b : ℕ) → a < b → (b == a) ≡ false
apart_indexes a b lt = grind (arith, nat_tests)

of_same : (i : ℕ) (said : List Stamped) → of_input i (tagged i said) ≡ tagged i said
of_same i [] = refl
of_same i (m ∷ said) = ap (λ (b : Bool). cond b (record { input = i; stamped = m } ∷ of_input i (tagged i said)) (of_input i (tagged i said))) (own_id i) ∙ ap (λ (ms : List Tagged). record { input = i; stamped = m } ∷ ms) (of_same i said)

of_other : (i index : ℕ) (said : List Stamped) → (index == i) ≡ false → of_input i (tagged index said) ≡ []
of_other i index [] apart = refl
of_other i index (m ∷ said) apart = ap (λ (b : Bool). cond b (record { input = index; stamped = m } ∷ of_input i (tagged index said)) (of_input i (tagged index said))) apart ∙ of_other i index said apart

of_earlier : (i index : ℕ) (told : List (List Stamped)) → i < index → of_input i (tagged_from index told) ≡ []
of_earlier i index [] lt = refl
of_earlier i index (said ∷ later) lt =
    filter-append (λ message. message.input == i) (tagged index said) (tagged_from (suc index) later)
    ∙ (λ j. of_other i index said (apart_indexes i index lt) j ++ of_earlier i (suc index) later (omega arith) j)

apart_behind : (k i : ℕ) → (k == (k + suc i)) ≡ false
apart_behind k i = grind (arith, nat_tests)

pub of_each : (i index : ℕ) (told : List (List Stamped)) → of_input (index + i) (tagged_from index told) ≡ tagged (index + i) (said_at i told)
of_each i index [] = refl
of_each zero index (said ∷ later) =
    let here : index + 0 ≡ index = omega arith in
    subst (λ (n : ℕ). of_input n (tagged_from index (said ∷ later)) ≡ tagged n said) (sym here)
    (filter-append (λ message. message.input == index) (tagged index said) (tagged_from (suc index) later)
    ∙ (λ j. of_same index said j ++ of_earlier index (suc index) later (omega arith) j)
    ∙ append-nil (tagged index said))
of_each (suc i) index (said ∷ later) =
    let there : suc index + i ≡ index + suc i = omega arith in
    filter-append (λ message. message.input == (index + suc i)) (tagged index said) (tagged_from (suc index) later)
    ∙ (λ j. of_other (index + suc i) index said (apart_behind index i) j ++ of_input (index + suc i) (tagged_from (suc index) later))
    ∙ subst (λ (n : ℕ). of_input n (tagged_from (suc index) later) ≡ tagged n (said_at i later)) there (of_each i (suc index) later)

-- of one index, list by list
pub of_lists : (i : ℕ) (lists : List (List (List Stamped))) → flat_map (of_input i) (map (tagged_from 0) lists) ≡ tagged i (flat_map (said_at i) lists)
of_lists i [] = refl
of_lists i (told ∷ lists) =
    let index : 0 + i ≡ i = omega arith in
    (λ j. subst (λ (n : ℕ). of_input n (tagged_from 0 told) ≡ tagged n (said_at i told)) index (of_each i 0 told) j ++ of_lists i lists j)
    ∙ sym (map-append _ (said_at i told) (flat_map (said_at i) lists))

-- the messages of the first records
abbrev told_to : ℕ → ℕ → List (List Stamped) → List Tagged
told_to index zero told = []
told_to index (suc n) told = told_to index n told ++ tagged (index + n) (said_at n told)

one_before : (index n : ℕ) (said : List Stamped) (later : List (List Stamped)) → told_to index (suc n) (said ∷ later) ≡ tagged index said ++ told_to (suc index) n later
one_before index zero said later =
    let here : index + 0 ≡ index = omega arith in
    ap (λ (k : ℕ). tagged k said) here ∙ sym (append-nil (tagged index said))
one_before index (suc n) said later =
    let there : index + suc n ≡ suc index + n = omega arith in
    (λ j. one_before index n said later j ++ tagged (there j) (said_at n later))
    ∙ append_assoc (tagged index said) (told_to (suc index) n later) (tagged (suc index + n) (said_at n later))

all_told : (index : ℕ) (told : List (List Stamped)) → told_to index (length told) told ≡ tagged_from index told
all_told index [] = refl
all_told index (said ∷ later) = one_before index (length later) said later ∙ ap (λ (ms : List Tagged). tagged index said ++ ms) (all_told (suc index) later)

first_merged : (n : ℕ) (lists : List (List (List Stamped))) (whole : List (List Stamped)) → ((i : ℕ) → i < n → flat_map (said_at i) lists ≡ said_at i whole)
    → merged n (map (tagged_from 0) lists) ≡ told_to 0 n whole
unfolding merged
first_merged zero lists whole same = refl
first_merged (suc n) lists whole same =
    let index : n ≡ 0 + n = omega arith in
    λ j. first_merged n lists whole (λ i lt. same i (omega arith)) j ++ (of_lists n lists ∙ ap (tagged n) (same n (omega arith)) ∙ ap (λ (k : ℕ). tagged k (said_at n whole)) index) j

-- all parts merged say at each record what all of them say there, one behind the other
pub merged_is : (lists : List (List (List Stamped))) (whole : List (List Stamped)) → ((i : ℕ) → i < length whole → flat_map (said_at i) lists ≡ said_at i whole)
    → merged (length whole) (map (tagged_from 0) lists) ≡ tagged_from 0 whole
merged_is lists whole same = first_merged (length whole) lists whole same ∙ all_told 0 whole
