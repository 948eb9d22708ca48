-- Numbers as words.
use Rattle.std.specs.Prelude.{ℕ, ◌+◌, ◌-◌, ◌*◌, Bool, ◌&&◌, ◌||◌, ◌==◌, not, nat_le, nat_lt, if◌then◌else◌, List, [], ◌∷◌, length, get_or, drop, Option, Some, None}
use Rattle.std.specs.List.{list_all}

abbrev pub is_digit : ℕ → Bool
is_digit byte = nat_le 48 byte && nat_le byte 57

-- the value of decimal digits that stand behind those of a number
abbrev pub value_behind : ℕ → List ℕ → ℕ
value_behind n [] = n
value_behind n (digit ∷ later) = value_behind (10 * n + (digit - 48)) later

-- at least one byte, and digits alone
abbrev pub is_number : List ℕ → Bool
is_number word = not (length word == 0) && list_all is_digit word

-- the number of decimal digits, where it is in a range
abbrev pub within : ℕ → ℕ → List ℕ → Option ℕ
within least most digits =
    if is_number digits && (nat_le least (value_behind 0 digits) && nat_le (value_behind 0 digits) most) then Some (value_behind 0 digits) else None

-- a plus (43) stands before it
abbrev pub has_plus : List ℕ → Bool
has_plus word = not (length word == 0) && (get_or word 0 0 == 43)

-- no plus stands before it, and no zero (48) before other digits
abbrev pub is_plain : List ℕ → Bool
is_plain word = not (has_plus word) && (nat_lt (length word) 2 || not (get_or word 0 0 == 48))

abbrev pub without_plus : List ℕ → List ℕ
without_plus word = if has_plus word then drop 1 word else word

-- the number of digits, which may have zeros and a plus before them
abbrev pub numeral_in : ℕ → ℕ → List ℕ → Option ℕ
numeral_in least most word = within least most (without_plus word)
