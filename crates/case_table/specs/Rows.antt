-- Tables of cases: which rows a key matches, and the answer of the only one.
use Rattle.std.specs.Prelude.{ℕ, Bool, Option, Some, None, List, [], ◌∷◌, ◌==◌, bit_and, filter, count_by}
use Rattle.std.specs.List.{list_all, range_with_len}
use Rattle.case_table.specs.declared.row.Case.{Case}

-- the key's bits under the mask equal the value
abbrev pub matches : ℕ → Case → Bool
matches key row = bit_and key row.mask == row.value

-- a key matches exactly one of the rows
abbrev pub has_one_row : List Case → ℕ → Bool
has_one_row rows key = count_by (matches key) rows == 1

-- each key below a number matches exactly one row
abbrev pub is_table : ℕ → List Case → Bool
is_table keys rows = list_all (has_one_row rows) (range_with_len 0 keys)

-- the answer of an only row
abbrev pub answer_of_only : List Case → Option ℕ
answer_of_only (row ∷ []) = Some row.answer
answer_of_only rows = None

-- the answer of the one row that a key matches
abbrev pub answer_of : ℕ → List Case → Option ℕ
answer_of key rows = answer_of_only (filter (matches key) rows)
