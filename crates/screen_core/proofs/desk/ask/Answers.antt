use Rattle.std.proofs.Common.{◌≡◌, All, [], ◌∷◌, sym, ap, ◌∙◌, subst}
use Rattle.board_core.specs.declared.entry.Entry.{Entry}
use Rattle.board_core.specs.declared.entry.Entry.TheVariants.{State, Band}
use Rattle.price_core.specs.declared.quote.Side.TheVariants.{Low, High}
use Rattle.board_core.specs.Entries.{IsEntry}
use Rattle.board_core.specs.Views.{IsNotAfter}
use Rattle.board_core.specs.Seats.{answers_of, notes_of}
use Rattle.screen_core.specs.declared.row.Row.{Row}
use Rattle.screen_core.specs.InternalRows.{IsAnswered}
use Rattle.screen_core.proofs.Steps.{row_of}
use Rattle.screen_core.proofs.desk.ask.Goals as goal

pub returns-clause-more : goal.returns-clause-more
returns-clause-more c =
    let a : Entry = State c.args.symbol c.state-shown.result in
    let b : Entry = Band c.args.symbol Low c.edge-lower.result in
    let d : Entry = Band c.args.symbol High c.edge-upper.result in
    (d ∷ b ∷ a ∷ [], c.edge-upper.ensures.answer ∙ (ap (λ es. d ∷ es) c.edge-lower.ensures.answer ∙ ap (λ es. d ∷ b ∷ es) c.state-shown.ensures.answer))

pub returns-clause-row : goal.returns-clause-row
returns-clause-row c =
    let k = c.args.symbol in
    let old = c.args.reader.now in
    let a : Entry = State k c.state-shown.result in
    let b : Entry = Band k Low c.edge-lower.result in
    let d : Entry = Band k High c.edge-upper.result in
    let row : Row = record { symbol = k; shown = c.state-shown.result; lower = c.edge-lower.result.price; upper = c.edge-upper.result.price } in
    let low_told = subst (λ notes. All (λ note. (e : Entry) → IsEntry e note → IsNotAfter b e) notes) c.state-shown.ensures.notes c.edge-lower.ensures.follows.notes in
    let high_told = subst (λ notes. All (λ note. (e : Entry) → IsEntry e note → IsNotAfter d e) notes) (c.edge-lower.ensures.notes ∙ c.state-shown.ensures.notes) c.edge-upper.ensures.follows.notes in
    let answers : answers_of c.edge-upper.new.seat ≡ d ∷ b ∷ a ∷ answers_of old = c.edge-upper.ensures.answer ∙ (ap (λ es. d ∷ es) c.edge-lower.ensures.answer ∙ ap (λ es. d ∷ b ∷ es) c.state-shown.ensures.answer) in
    (row, c.push_reserved.ensures.items, subst (λ es. IsAnswered (notes_of old) es k row) (sym answers) (row_of (notes_of old) (answers_of old) row c.edge-lower.result.version c.edge-upper.result.version c.state-shown.ensures.follows.notes low_told high_told))
