use Rattle.std.proofs.Common.{◌≡◌, ℕ, ◌∷◌, [], List, Some, length, length-append, sym, ap, ◌∙◌, subst, arith}
use Rattle.std.specs.Prelude.{slice_get}
use Rattle.board_core.specs.declared.entry.Entry.{Entry}
use Rattle.board_core.specs.Seats.{answers_of, notes_of}
use Rattle.screen_core.specs.declared.row.Row.{Row}
use Rattle.screen_core.specs.InternalRows.{IsAnswered}
use Rattle.screen_core.proofs.Steps.{still_answered, each_pushed}
use Rattle.screen_core.proofs.desk.ask_all.Goals as goal

pub loop-symbol-preserved : goal.loop-symbol-preserved
loop-symbol-preserved c =
    let inv = c.loop-symbol.invariant in
    let is = c.ask.ensures in
    let notes : List (List Entry) = notes_of c.args.reader.now in
    let old = c.loop-symbol.rows in
    let new = c.ask.new.rows in
    let row : Row = is.row.0 in
    let answers : List Entry = answers_of c.ask.new.reader in
    let before : (k : ℕ) (r : Row) → slice_get old.items k ≡ Some r → IsAnswered notes answers k r = λ k r at. subst (λ es. IsAnswered notes es k r) (sym is.more.1) (still_answered notes is.more.0 (answers_of c.loop-symbol.reader) k r (inv.rows k r at)) in
    let here : IsAnswered notes answers c.loop-symbol.symbol row = subst (λ ns. IsAnswered ns answers c.loop-symbol.symbol row) inv.notes is.row.2 in
    record {
      reader = is.reader;
      notes = is.notes ∙ inv.notes;
      count = omega (arith, inv.count, old.ok.0, new.ok.0, ap length is.row.1, length-append old.items (row ∷ []));
      room = omega (arith, is.room, inv.room);
      rows = λ k r at. each_pushed (IsAnswered notes answers) old.items row c.loop-symbol.symbol (omega (arith, inv.count, old.ok.0)) before here k r (subst (λ xs. slice_get xs k ≡ Some r) is.row.1 at);
    }
