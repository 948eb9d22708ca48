-- The table of the pauses and halts below a picture.
use Rattle.std.specs.Prelude.{ℕ, ◌+◌, ◌*◌, ◌/◌, ◌%◌, ◌==◌, if◌then◌else◌, List, [], ◌∷◌, length, codes, decimal}
use Rattle.picture_core.specs.Labels.{◌⊕◌}
use Rattle.picture_core.specs.Stops.{stop_text}
use Rattle.picture_core.specs.declared.stop.Stop.{Stop}

-- how many rows four columns have
abbrev pub rows_for : ℕ → ℕ
rows_for count = (count + 3) / 4

-- the height of a page with the table
abbrev pub page_height : ℕ → ℕ
page_height count = if count == 0 then 4020 else 4140 + 70 * rows_for count

-- a cell of the table, which is filled column by column
unfoldable pub cell : ℕ → ℕ → Stop → List ℕ
cell rows at stop =
    codes "<text x=\"" ⊕ decimal (800 + 1350 * (at / rows)) ⊕ codes "\" y=\"" ⊕ decimal (4150 + 70 * (at % rows)) ⊕ codes "\">"
    ⊕ stop_text stop ⊕ codes "</text>\n"

-- the cells from that one on
abbrev pub cells : ℕ → ℕ → List Stop → List ℕ
cells rows at [] = []
cells rows at (stop ∷ stops) = cell rows at stop ⊕ cells rows (at + 1) stops

-- all cells below their title, where there are any
unfoldable pub table : List Stop → List ℕ
table stops =
    if length stops == 0 then []
    else codes "<text class=\"strong\" x=\"800\" y=\"4070\">Pauses and halts</text>\n" ⊕ cells (rows_for (length stops)) 0 stops
