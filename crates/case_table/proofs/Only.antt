-- Where a test passes exactly one row, the first row that it passes is the only one.
use Rattle.std.proofs.Common.{◌≡◌, ◌≤◌, ◌<◌, ◌+◌, ℕ, zero, suc, Bool, true, false, cond, List, [], ◌∷◌, length, Option, Some, None, IsTrue, inl, inr, refl, ap, ◌∙◌, arith}
use Rattle.std.specs.List.{count_by, filter, find, list_all, range_with_len}
use Rattle.std.proofs.lemmas.Bool.{and_parts, cases_eq, eqb-true}
use Rattle.std.proofs.lemmas.List.Sums.{length-filter}
use Rattle.case_table.specs.declared.row.Case.{Case}
use Rattle.case_table.specs.Rows.{matches, has_one_row, is_table, answer_of_only, answer_of}

-- a test that passes each number of a range passes each that is in it
pub holds-in_range : (test : ℕ → Bool) (n from key : ℕ) → list_all test (range_with_len from n) ≡ true → from ≤ key → key < from + n → test key ≡ true
holds-in_range test zero from key all low high = absurd (omega arith)
holds-in_range test (suc n) from key all low high =
    let parts = and_parts (test from) (list_all test (range_with_len (from + 1) n)) all in
    elim (cases_eq key from) [
      | inl same ↦ ap test same ∙ parts.0
      | inr other ↦ holds-in_range test n (from + 1) key parts.1 (omega arith) (omega arith)
    ]

abbrev first : List Case → Option Case
first [] = None
first (row ∷ rows) = Some row

first-cond : (b : Bool) (row : Case) (found : Option Case) (rows : List Case) → found ≡ first rows → cond b (Some row) found ≡ first (cond b (row ∷ rows) rows)
first-cond true row found rows same = refl
first-cond false row found rows same = same

find-first : (test : Case → Bool) (rows : List Case) → find test rows ≡ first (filter test rows)
find-first test [] = refl
find-first test (row ∷ rows) = first-cond (test row) row (find test rows) (filter test rows) (find-first test rows)

only-first : (rows : List Case) (row : Case) → length rows ≡ 1 → first rows ≡ Some row → answer_of_only rows ≡ Some row.answer
only-first [] row one is = absurd (omega arith)
only-first (x ∷ []) row one is = cc
only-first (x ∷ y ∷ rows) row one is = absurd (omega arith)

some-first : (rows : List Case) → length rows ≡ 1 → first rows ≡ None → ⊥
some-first [] one is = omega arith
some-first (x ∷ rows) one is = cc

-- in a table each key matches one row
one_row : (keys : ℕ) (rows : List Case) (key : ℕ) → IsTrue (is_table keys rows) → key < keys → count_by (matches key) rows ≡ 1
one_row keys rows key table below = eqb-true _ 1 (holds-in_range (has_one_row rows) keys 0 key table (omega arith) (omega arith))

-- in a table a row is found
pub some-find : (keys : ℕ) (rows : List Case) (key : ℕ) → IsTrue (is_table keys rows) → key < keys → find (matches key) rows ≡ None → ⊥
some-find keys rows key table below found =
    let e = find-first (matches key) rows in
    some-first (filter (matches key) rows) (length-filter (matches key) rows ∙ one_row keys rows key table below) (cc)

-- and it is the one that matches
pub answer-find : (keys : ℕ) (rows : List Case) (key : ℕ) (row : Case) → IsTrue (is_table keys rows) → key < keys → find (matches key) rows ≡ Some row → answer_of key rows ≡ Some row.answer
answer-find keys rows key row table below found =
    let e = find-first (matches key) rows in
    only-first (filter (matches key) rows) row (length-filter (matches key) rows ∙ one_row keys rows key table below) (cc)
