-- Rows that a reader was answered. Private words: no public clause cites them.
use Rattle.std.specs.Prelude.{◌≡◌, ℕ, List, ◌++◌, All, Contains}
use Rattle.price_core.specs.declared.quote.Side.TheVariants.{Low, High}
use Rattle.board_core.specs.declared.entry.Entry.{Entry}
use Rattle.board_core.specs.declared.entry.Entry.TheVariants.{State, Band}
use Rattle.board_core.specs.Numbers.{edge}
use Rattle.board_core.specs.Entries.{IsEntry}
use Rattle.board_core.specs.Views.{IsNotAfter}
use Rattle.screen_core.specs.declared.row.Row.{Row}

-- there are more answers
abbrev pub Adds : List Entry → List Entry → Type 0
Adds old new = (more : List Entry) × (new ≡ more ++ old)

-- it is among the answers, and comes after each entry that these notes told of its word
pub record IsAnswer (notes : List (List Entry)) (answers : List Entry) (e : Entry) : Type 0 where
  pub among : Contains answers e
  pub told : All (λ note. (a : Entry) → IsEntry a note → IsNotAfter e a) notes

-- the row of the symbol k was answered
pub record IsAnswered (notes : List (List Entry)) (answers : List Entry) (k : ℕ) (row : Row) : Type 0 where
  pub symbol : row.symbol ≡ k
  pub state : IsAnswer notes answers (State k row.shown)
  pub low : (version : ℕ) × IsAnswer notes answers (Band k Low (edge version row.lower))
  pub high : (version : ℕ) × IsAnswer notes answers (Band k High (edge version row.upper))
