-- The fields of a body, each at its offset and in its range. Numbers are unsigned and big-endian.
use Rattle.std.specs.Prelude.{ℕ, Bool, ◌&&◌, ◌==◌, nat_le, nat_lt, if◌then◌else◌, List, take, drop, Option, Some, None}
use Rattle.std.specs.Int.{Width, w32, w64, byte_len, from_be_bytes}

-- the number of that width that stands at an offset
abbrev pub number : Width → ℕ → List ℕ → ℕ
number w at body = from_be_bytes w (take (byte_len w) (drop at body))

-- a value where the test holds, and else none
abbrev pub checked : {A : Type 0} → Bool → A → Option A
checked holds x = if holds then Some x else None

-- the ranges of moments, prices and index values, as tests
abbrev pub is_moment : ℕ → Bool
is_moment nanos = nat_lt nanos 86400000000000

-- a price in ten-thousandths of a dollar
abbrev pub is_price : ℕ → Bool
is_price units = nat_le 1 units && nat_le units 99999999999

-- an index value in hundredths of a point
abbrev pub is_index : ℕ → Bool
is_index hundredths = nat_le 1 hundredths && nat_le hundredths 99999999

-- a moment in nanoseconds, of eight bytes
unfoldable pub moment_at : ℕ → List ℕ → Option ℕ
moment_at at body = checked (is_moment (number w64 at body)) (number w64 at body)

-- a price in ten-thousandths of a dollar, of eight bytes
unfoldable pub price_at : ℕ → List ℕ → Option ℕ
price_at at body = checked (is_price (number w64 at body)) (number w64 at body)

-- a price, or 0 where there is none
unfoldable pub optional_price_at : ℕ → List ℕ → Option (Option ℕ)
optional_price_at at body =
    if number w64 at body == 0 then Some None
    else checked (is_price (number w64 at body)) (Some (number w64 at body))

-- an index value in hundredths of a point, of four bytes
unfoldable pub index_at : ℕ → List ℕ → Option ℕ
index_at at body = checked (is_index (number w32 at body)) (number w32 at body)
