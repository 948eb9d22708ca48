use Rattle.std.proofs.Common.{◌≡◌, ◌∷◌, [], All, ◌∙◌, subst}
use Rattle.board_core.specs.declared.board.ReaderSeat.{ReaderSeat}
use Rattle.board_core.specs.Entries.{board_entries, IsEntry}
use Rattle.board_core.specs.Seats.{entries_of, answers_of, notes_of, told_by}
use Rattle.gateway.specs.Rows.{IsAnswered}
use Rattle.gateway.proofs.Steps.{row_is_last, All_end}
use Rattle.gateway.proofs.day.end_day.Goals as goal

pub returns-clause-rows : goal.returns-clause-rows
returns-clause-rows c ms is k row at =
    let asked = c.rows_of-rows.new.reader in
    let entries : entries_of c.note-note.new.seat ≡ board_entries ms = c.note-note.ensures.entries ∙ is in
    let told : told_by c.note-note.result ≡ board_entries ms = c.note-note.ensures.told ∙ is in
    let notes : notes_of c.meet.new.seat ≡ board_entries ms ∷ [] = c.meet.ensures.notes ∙ (λ i. told i ∷ c.requires.readers.0.notes i) in
    let answered : IsAnswered (board_entries ms ∷ []) (answers_of asked) k row = subst (λ ns. IsAnswered ns (answers_of asked) k row) notes (c.rows_of-rows.ensures.rows k row at) in
    let right : ReaderSeat → Type 0 = λ r. All (λ a. IsEntry a (entries_of c.note-note.new.seat)) (answers_of r) in
    let closed : right asked = All_end right c.push_reserved.new.self.items asked (subst (All right) c.push_reserved-2.ensures.items c.close.ensures) in
    row_is_last ms (answers_of asked) k row answered (subst (λ es. All (λ a. IsEntry a es) (answers_of asked)) entries closed)
