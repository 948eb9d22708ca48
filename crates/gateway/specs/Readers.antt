-- What holds of a reader of a board.
use Rattle.std.specs.Prelude.{◌≡◌, ◌⊎◌, ◌≤◌, ℕ, List, [], Option, Some, Contains, slice_get, vec_len}
use Rattle.price_core.specs.declared.quote.Side.{Side}
use Rattle.price_core.specs.declared.quote.Side.TheVariants.{Low, High}
use Rattle.board_core.specs.declared.board.Board.{Board}
use Rattle.board_core.specs.declared.entry.Entry.{Entry}
use Rattle.board_core.specs.declared.entry.Entry.TheVariants.{Band}
use Rattle.board_core.specs.Numbers.{edge}
use Rattle.board_core.specs.Seats.{symbols_of, answers_of, notes_of, IsReaderOf}
use Rattle.gateway.specs.declared.reader.Seen.{Seen}
use Rattle.gateway.specs.declared.reader.Reader.{Reader}

-- an edge of that version is among the answers, or it is version 0
abbrev pub IsVersionSeen : List Entry → ℕ → Side → ℕ → Type 0
IsVersionSeen answers k side version = (version ≡ 0) ⊎ ((price : Option ℕ) × Contains answers (Band k side (edge version price)))

-- these versions of the stock k were answered
pub record IsSeen (answers : List Entry) (k : ℕ) (seen : Seen) : Type 0 where
  pub low : IsVersionSeen answers k Low seen.low
  pub high : IsVersionSeen answers k High seen.high

abbrev pub AreSeen : List Entry → List Seen → Type 0
AreSeen answers seen = (k : ℕ) (x : Seen) → slice_get seen k ≡ Some x → IsSeen answers k x

-- a reader of this board that saw no version fall, and that was told of nothing
pub record IsUntold (b : Board) (r : Reader) : Type 0 where
  pub seat : IsReaderOf b r.seat
  pub stocks : r.stocks ≤ symbols_of b
  pub count : vec_len r.seen ≡ r.stocks
  pub seen : AreSeen (answers_of r.seat) r.seen.items
  pub fallen : r.tally.fallen ≡ 0
  pub notes : notes_of r.seat ≡ []
