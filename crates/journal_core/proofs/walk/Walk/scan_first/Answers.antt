use Rattle.std.proofs.Common.{ℕ, List, ◌++◌, sym, ap, subst, ◌∙◌}
use Rattle.std.specs.Prelude.{Option}
use Rattle.journal_core.specs.Scan.{ScanState}
use Rattle.journal_core.specs.Walking.{IsLastBase}
use Rattle.journal_core.specs.declared.walk.BaseAt.{BaseAt}
use Rattle.journal_core.proofs.Walking.{from_first}
use Rattle.journal_core.proofs.walk.Walk.scan_first.Goals as goal

pub returns-clause-read : goal.returns-clause-read
returns-clause-read g c disk known h closed =
    let s = c.at_gate.ensures in
    let is = c.in_ok-ahead.ensures.bytes disk known h in
    from_first c.args.self disk h closed c.at_gate.result is.0 (subst (λ (b : Option BaseAt). IsLastBase b h.marks) c.requires.none h.base)
    (is.1 ∙ ap (λ (l : List ℕ). l ++ is.0) (sym (ap (λ (t : ScanState). t.ahead) s)))
    (ap (λ (t : ScanState). t.capacity) s) (ap (λ (t : ScanState). t.base) s) (ap (λ (t : ScanState). t.count) s) (ap (λ (t : ScanState). t.gate) s) (ap (λ (t : ScanState). t.is_closed) s) (ap (λ (t : ScanState). t.size) s)
