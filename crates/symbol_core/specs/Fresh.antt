-- A symbol of which nothing was said since its day began.
use Rattle.std.specs.Prelude.{◌≡◌, ℕ, Bool, []}
use Rattle.symbol_core.specs.Rests.{SymbolState}
use Rattle.symbol_core.specs.Taken.{renewed}

-- the symbol of an id, whose short sale restriction the day carries or not
pub record IsFresh (s : ℕ) (carried : Bool) (held : SymbolState) : Type 0 where
  pub kept : held.kept ≡ renewed s carried
  pub deals : held.deals ≡ []
