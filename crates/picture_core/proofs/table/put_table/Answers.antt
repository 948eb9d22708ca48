use Rattle.std.proofs.Common.{◌≡◌, ◌==◌, ℕ, false, List, ◌++◌, length, sym, ap, ◌∙◌, append_assoc}
use Rattle.picture_core.specs.Tables.{table}
use Rattle.picture_core.proofs.table.put_table.Goals as goal

put_twice : (old mid new a b : List ℕ) → mid ≡ old ++ a → new ≡ mid ++ b → new ≡ old ++ (a ++ b)
put_twice old mid new a b first last = last ∙ ap (λ (t : List ℕ). t ++ b) first ∙ append_assoc old a b

-- there are some
pub returns : goal.returns
unfolding table
returns c =
    let some : (length c.args.stops.now == 0) ≡ false = sym c.is_empty.ensures ∙ c.if-is_empty.false in
    rw (some, ← c.rows_for.ensures) (put_twice _ _ _ _ _ c.in_ok-push_str.ensures.bytes c.in_ok-put_cells.ensures)
