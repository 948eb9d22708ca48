use Rattle.std.proofs.Common.{◌≡◌, List, ◌∷◌, [], All, IfSome, length, ap, ◌∙◌, sym, subst, arith}
use Rattle.std.specs.Option.{option_to_list}
use Rattle.std.proofs.lemmas.List.Elements.{All-nil, All-cons, All-append, All-pop}
use Rattle.board_core.specs.declared.board.ReaderSeat.{ReaderSeat}
use Rattle.board_core.specs.declared.entry.Entry.{Entry}
use Rattle.board_core.specs.Entries.{board_entries, IsEntry}
use Rattle.board_core.specs.Seats.{entries_of, answers_of, notes_of, told_by, IsFresh, IsReaderOf}
use Rattle.screen_core.specs.Rows.{last_row}
use Rattle.screen_core.specs.InternalRows.{IsAnswered}
use Rattle.screen_core.proofs.Steps.{all_rows, each_more, row_is_last, All_end}
use Rattle.screen_core.proofs.desk.Desk.close.Goals as goal

pub meet-requires-clause-seat : goal.meet-requires-clause-seat
meet-requires-clause-seat c =
    let popped = All-pop (IsFresh c.args.self.board) _ _ c.pop.result c.pop.ensures.items c.requires.reader.1 in
    let fresh : IsFresh c.args.self.board c.unwrap-reader.result = subst (λ r. IfSome r (IsFresh c.args.self.board)) c.unwrap-reader.ensures popped.1 in
    fresh.seat

pub push_reserved-requires : goal.push_reserved-requires
push_reserved-requires c =
    let one = ap (λ r. length (option_to_list r)) c.unwrap-reader.ensures in
    omega (arith, c.pop.ensures.len, c.pop.ensures.capacity, one, c.args.self.readers.ok.1, c.requires.reader.0)

pub close-requires-clause-readers : goal.close-requires-clause-readers
close-requires-clause-readers c =
    let board = c.args.self.board in
    let rest = c.pop.new.self.items in
    let asked = c.ask_all.new.reader in
    let popped = All-pop (IsFresh board) _ _ c.pop.result c.pop.ensures.items c.requires.reader.1 in
    subst (All (IsReaderOf board)) (sym c.push_reserved.ensures.items)
    (All-append (IsReaderOf board) rest (asked ∷ []) (each_more {P = IsFresh board} {Q = IsReaderOf board} (λ r fresh. fresh.seat) rest popped.0) (All-cons (IsReaderOf board) asked [] c.ask_all.ensures.reader (All-nil (IsReaderOf board))))

pub returns : goal.returns
returns c published has =
    let board = c.args.self.board in
    let reader = c.unwrap-reader.result in
    let asked = c.ask_all.new.reader in
    let rows = c.ask_all.new.rows in
    let entries : entries_of c.note-note.new.seat ≡ board_entries published = c.note-note.ensures.entries ∙ has.entries in
    let told : told_by c.note-note.result ≡ board_entries published = c.note-note.ensures.told ∙ has.entries in
    let popped = All-pop (IsFresh board) _ _ c.pop.result c.pop.ensures.items has.fresh in
    let fresh : IsFresh board reader = subst (λ r. IfSome r (IsFresh board)) c.unwrap-reader.ensures popped.1 in
    let notes : notes_of c.meet.new.seat ≡ board_entries published ∷ [] = c.meet.ensures.notes ∙ (λ i. told i ∷ fresh.notes i) in
    let right : ReaderSeat → Type 0 = λ r. All (λ a. IsEntry a (entries_of c.note-note.new.seat)) (answers_of r) in
    let closed : right asked = All_end right c.pop.new.self.items asked (subst (All right) c.push_reserved.ensures.items c.close.ensures) in
    let all : All (λ a. IsEntry a (board_entries published)) (answers_of asked) = subst (λ (es : List Entry). All (λ a. IsEntry a es) (answers_of asked)) entries closed in
    all_rows (last_row published) c.args.symbols rows.items (omega (arith, rows.ok.0, c.ask_all.ensures.count))
    (λ k row at. row_is_last published (answers_of asked) k row (subst (λ ns. IsAnswered ns (answers_of asked) k row) notes (c.ask_all.ensures.rows k row at)) all)
