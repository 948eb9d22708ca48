-- Stocks of which nothing was said since their day began.
use Rattle.std.specs.Prelude.{◌≡◌, ℕ, Bool, false, Some, List, ◌==◌, length, slice_get}
use Rattle.std.specs.List.{list_any}
use Rattle.std.specs.Option.{option_map_or}
use Rattle.symbol_core.specs.Fresh.{IsFresh}
use Rattle.symbol_core.specs.Rests.{SymbolState}

-- the stocks of the first ids, so many, in order, on a day that carries the restrictions of these
pub record AreFresh (carried : List ℕ) (count : ℕ) (symbols : List SymbolState) : Type 0 where
  pub count_is : length symbols ≡ count
  pub each : (s : ℕ) (held : SymbolState) → slice_get symbols s ≡ Some held → IsFresh s (list_any (λ t. t == s) carried) held

-- whether what is kept of an id says that its restriction is carried
abbrev pub is_marked : List SymbolState → ℕ → Bool
is_marked symbols s = option_map_or (λ held. held.kept.short.carried) (slice_get symbols s) false
