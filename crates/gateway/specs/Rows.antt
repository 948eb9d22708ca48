-- What the rows of a board say.
use Rattle.std.specs.Prelude.{◌≡◌, ℕ, List, ◌++◌, All, Contains, Some, slice_get}
use Rattle.price_core.specs.declared.quote.Side.TheVariants.{Low, High}
use Rattle.wire_out.specs.declared.message.Message.{Message}
use Rattle.board_core.specs.declared.entry.Entry.{Entry}
use Rattle.board_core.specs.declared.entry.Entry.TheVariants.{State, Band}
use Rattle.board_core.specs.Numbers.{edge}
use Rattle.board_core.specs.Entries.{shown_at, edge_at, board_entries, IsEntry}
use Rattle.board_core.specs.Views.{IsNotAfter}
use Rattle.board_core.specs.Seats.{IsOn, IsWhole}
use Rattle.gateway.specs.declared.rows.Row.{Row}

-- a board of so many symbols may publish the message
abbrev pub CanPublish : ℕ → Message → Type 0
CanPublish symbols m = IsOn symbols m × IsWhole m

-- there are more answers
abbrev pub Adds : List Entry → List Entry → Type 0
Adds old new = (more : List Entry) × (new ≡ more ++ old)

-- it is among the answers, and comes after each entry that these notes told of its word
pub record IsAnswer (notes : List (List Entry)) (answers : List Entry) (e : Entry) : Type 0 where
  pub among : Contains answers e
  pub told : All (λ note. (a : Entry) → IsEntry a note → IsNotAfter e a) notes

-- the row of the stock k was answered
pub record IsAnswered (notes : List (List Entry)) (answers : List Entry) (k : ℕ) (row : Row) : Type 0 where
  pub state : IsAnswer notes answers (State k row.shown)
  pub low : (version : ℕ) × IsAnswer notes answers (Band k Low (edge version row.lower))
  pub high : (version : ℕ) × IsAnswer notes answers (Band k High (edge version row.upper))

-- the row of the stock k is what these messages made last
pub record IsLast (published : List Message) (k : ℕ) (row : Row) : Type 0 where
  pub state : row.shown ≡ shown_at k (board_entries published)
  pub low : row.lower ≡ (edge_at k Low (board_entries published)).price
  pub high : row.upper ≡ (edge_at k High (board_entries published)).price

-- the k-th row is what these messages made last of the stock k
abbrev pub AreLast : List Message → List Row → Type 0
AreLast published rows = (k : ℕ) (row : Row) → slice_get rows k ≡ Some row → IsLast published k row
