-- What a board shows last of each symbol once messages were published, and the lines of that.
use Rattle.std.specs.Prelude.{ℕ, Bool, true, false, List, [], ◌∷◌, ◌++◌, codes, decimal}
use Rattle.std.specs.List.{flat_map}
use Rattle.price_core.specs.declared.quote.Side.TheVariants.{Low, High}
use Rattle.wire_out.specs.declared.message.Message.{Message}
use Rattle.rulebook.specs.Book.{ids_below}
use Rattle.board_core.specs.Entries.{board_entries, shown_at, edge_at}
use Rattle.text_core.specs.Words.{phase_word, straddle_word, optional_price_word}
use Rattle.screen_core.specs.declared.row.Row.{Row}

-- what is shown of a symbol after these messages
abbrev pub last_row : List Message → ℕ → Row
last_row published s = record {
  symbol = s;
  shown = shown_at s (board_entries published);
  lower = (edge_at s Low (board_entries published)).price;
  upper = (edge_at s High (board_entries published)).price;
}

abbrev pub restriction_word : Bool → List ℕ
restriction_word true = codes "restricted"
restriction_word false = codes "free"

-- the id, the phase, the straddle state, the short sale restriction and the price bands, with a blank (32) between them and a
-- newline (10) at the end
abbrev pub row_line : Row → List ℕ
row_line row =
    decimal row.symbol ++ 32 ∷ phase_word row.shown.phase ++ 32 ∷ straddle_word row.shown.straddle ++ 32 ∷ restriction_word row.shown.short
    ++ 32 ∷ optional_price_word row.lower ++ 32 ∷ optional_price_word row.upper ++ 10 ∷ []

-- the lines of the ids 0, 1, .. below n after these messages
abbrev pub board_lines : List Message → ℕ → List ℕ
board_lines published n = flat_map (λ s. row_line (last_row published s)) (ids_below n)
