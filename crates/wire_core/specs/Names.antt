-- Names of symbols: one to eight visible ASCII characters, and then zero bytes, eight bytes in all.
use Rattle.std.specs.Prelude.{ℕ, Bool, ◌&&◌, ◌==◌, nat_le, nat_lt, List, length, take, drop, take_while, Option}
use Rattle.std.specs.List.{list_all}
use Rattle.wire_core.specs.Fields.{checked}

-- from 0x21 to 0x7E
abbrev pub is_visible : ℕ → Bool
is_visible byte = nat_le 33 byte && nat_le byte 126

-- how many characters a name begins with
abbrev pub visible_count : List ℕ → ℕ
visible_count name = length (take_while is_visible name)

-- visible characters, one at least, and then zero bytes
abbrev pub is_name : List ℕ → Bool
is_name name = nat_lt 0 (visible_count name) && list_all (λ byte. byte == 0) (drop (visible_count name) name)

-- a name of eight bytes
unfoldable pub name_at : ℕ → List ℕ → Option (List ℕ)
name_at at body = checked (is_name (take 8 (drop at body))) (take 8 (drop at body))
