use Rattle.std.proofs.Common.{ℕ, List, ◌+◌, ◌++◌, drop, inr, sym, ap, subst, ◌∙◌, arith, rules}
use Rattle.std.specs.Prelude.{Option, IfSome}
use Rattle.wire_in.specs.Bases.{SpellsBase}
use Rattle.host_core.proofs.Chains.{reads_on}
use Rattle.journal_core.specs.Scan.{ScanState}
use Rattle.journal_core.specs.Walk.{IsUnreadableAt}
use Rattle.journal_core.specs.Walking.{IsLastBase, IsWithin}
use Rattle.journal_core.specs.declared.walk.BaseAt.{BaseAt}
use Rattle.journal_core.proofs.Walking.{bad_base, from_base}
use Rattle.journal_core.proofs.walk.Walk.scan_behind.Goals as goal

pub returns-in_err-found-clause-damaged : goal.returns-in_err-found-clause-damaged
returns-in_err-found-clause-damaged g c at is disk known h closed =
    let walk = c.args.self in
    let base = c.args.base in
    let inside : IsWithin walk.gate base = subst (λ (b : Option BaseAt). IfSome b (IsWithin walk.gate)) c.requires.base c.requires.walking.base in
    let bad = c.in_err-found.ensures.bad at (search rules) in
    subst (λ (place : ℕ). IsUnreadableAt walk.capacity place disk) (sym bad.0)
    (inr (bad_base walk disk h closed base (subst (λ (b : Option BaseAt). IsLastBase b h.marks) c.requires.base h.base) (omega (arith, inside.before, c.requires.walking.inside, h.size))
    (λ b spells. bad.1 b (subst (λ (l : List ℕ). SpellsBase l b) (sym (c.deref.ensures.value ∙ c.in_ok-body.ensures.bytes disk known)) spells))))

pub returns-clause-read : goal.returns-clause-read
returns-clause-read g c disk known h closed =
    let walk = c.args.self in
    let base = c.args.base in
    let s = c.at_gate.ensures in
    let read = c.in_ok-ahead.ensures.bytes disk (c.read_apart.ensures.keeps.disk ∙ known) h in
    let inside : IsWithin walk.gate base = subst (λ (b : Option BaseAt). IfSome b (IsWithin walk.gate)) c.requires.base c.requires.walking.base in
    from_base walk disk h closed base (subst (λ (b : Option BaseAt). IsLastBase b h.marks) c.requires.base h.base) (omega (arith, inside.before, c.requires.walking.inside, h.size))
    c.in_ok-found.found (subst (λ (l : List ℕ). SpellsBase l c.in_ok-found.found) (c.deref.ensures.value ∙ c.in_ok-body.ensures.bytes disk known) c.in_ok-found.ensures.found) c.in_ok-found.ensures.few c.at_gate.result read.0
    (ap (λ (k : ℕ). drop (base.gate + 5 + k) disk) (sym c.from.ensures) ∙ read.1 ∙ ap (λ (l : List ℕ). l ++ read.0) (sym (ap (λ (t : ScanState). t.ahead) s)))
    (ap (λ (t : ScanState). t.capacity) s) (ap (λ (t : ScanState). t.base) s) (ap (λ (t : ScanState). t.count) s) (omega (arith, ap (λ (t : ScanState). t.gate) s)) (ap (λ (t : ScanState). t.is_closed) s) (ap (λ (t : ScanState). t.size) s)

pub returns-in_err-ahead-clause-keeps : goal.returns-in_err-ahead-clause-keeps
returns-in_err-ahead-clause-keeps g c = reads_on c.read_apart.ensures.keeps c.read_from.ensures.keeps

pub returns-clause-keeps : goal.returns-clause-keeps
returns-clause-keeps g c = reads_on c.read_apart.ensures.keeps c.read_from.ensures.keeps
