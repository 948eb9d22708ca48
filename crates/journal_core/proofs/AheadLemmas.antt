-- Parts of a buffer.
use Rattle.std.proofs.Common.{◌≡◌, ℕ, ◌+◌, ◌-◌, ◌≤◌, List, take, drop, sym, ap, ◌∙◌, arith}
use Rattle.std.proofs.lemmas.List.{drop-drop, drop-take}

pub skipped : (buffer value : List ℕ) (start end count : ℕ) → start + count ≤ end → take (end - start) (drop start buffer) ≡ value → take (end - (start + count)) (drop (start + count) buffer) ≡ drop count value
skipped buffer value start end count within is =
    let rest = end - (start + count) in
    ap (take rest) (sym (drop-drop count start buffer))
    ∙ sym (drop-take count rest (drop start buffer))
    ∙ ap (λ (k : ℕ). drop count (take k (drop start buffer))) (omega arith)
    ∙ ap (drop count) is
