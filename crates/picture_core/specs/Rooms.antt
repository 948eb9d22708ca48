-- The rooms of labels: none is drawn over another.
use Rattle.std.specs.Prelude.{◌≡◌, ⊤, ℕ, ◌+◌, ◌-◌, ◌*◌, Bool, true, not, ◌&&◌, nat_lt, if◌then◌else◌, List, [], ◌∷◌, ◌++◌, length}
use Rattle.std.specs.List.{list_all}
use Rattle.picture_core.specs.declared.room.Room.{Room}

-- words begin at their x, or end there: a character is taken to be 30 wide
abbrev pub left_of_words : ℕ → Bool → List ℕ → ℕ
left_of_words x ends_there words = if ends_there then x - 30 * length words else x

-- the room of words over a line at y
abbrev pub room_of_words : ℕ → ℕ → Bool → List ℕ → Room
room_of_words x y ends_there words = record {
  left = left_of_words x ends_there words;
  right = left_of_words x ends_there words + 30 * length words;
  top = y - 44;
  bottom = y + 12;
}

-- two rooms have a point in common
abbrev pub meets : Room → Room → Bool
meets a b = nat_lt a.left b.right && (nat_lt b.left a.right && (nat_lt a.top b.bottom && nat_lt b.top a.bottom))

-- a room meets none of these
abbrev pub is_free : List Room → Room → Bool
is_free rooms room = list_all (λ r. not (meets r room)) rooms

-- no two of these meet
abbrev pub AreApart : List Room → Type 0
AreApart [] = ⊤
AreApart (room ∷ rooms) = (list_all (λ r. not (meets room r)) rooms ≡ true) × AreApart rooms

-- the rooms of the labels that are drawn, with a further label: it is left out where it would stand over one of them
abbrev pub with_room : List Room → Room → List Room
with_room rooms room = if is_free rooms room then rooms ++ room ∷ [] else rooms
