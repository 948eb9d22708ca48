use Rattle.std.proofs.Common.{◌≡◌, ◌≤◌, ℕ, Some, vec_len, vec_capacity}
use Rattle.std.specs.Prelude.{slice_get}
use Rattle.board_core.specs.Seats.{answers_of, notes_of, IsReaderOf}
use Rattle.screen_core.specs.declared.row.Row.{Row}
use Rattle.screen_core.specs.InternalRows.{IsAnswered}
use Rattle.screen_core.proofs.desk.ask_all.Given as goal

abbrev pub invariant-loop-symbol : goal.invariant-loop-symbol
invariant-loop-symbol l = record {
  reader : IsReaderOf l.board l.reader;
  notes : notes_of l.reader ≡ notes_of l.initial.reader;
  count : vec_len l.rows ≡ l.symbol;
  room : l.symbols ≤ vec_capacity l.rows;
  rows : (k : ℕ) (row : Row) → slice_get l.rows.items k ≡ Some row → IsAnswered (notes_of l.initial.reader) (answers_of l.reader) k row;
}
