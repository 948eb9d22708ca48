-- Which names are a symbol's.
use Rattle.std.specs.Prelude.{ℕ, Bool, false, List, ◌==◌, position}
use Rattle.std.specs.Option.{option_map_or}
use Rattle.std.specs.Str.{bytes_eq}

-- the name at the index s among these, where a name stands once
abbrev pub own_in : List (List ℕ) → ℕ → List ℕ → Bool
own_in names s name = option_map_or (λ id. id == s) (position (bytes_eq name) names) false
