use Rattle.std.proofs.Common.{ℕ, ◌<◌, ◌≤◌, ◌≡◌, List, sym, ap, subst, ◌∙◌, arith}
use Rattle.std.specs.Prelude.{Option, Some}
use Rattle.wire_in.specs.Records.{moment_of}
use Rattle.window_core.specs.declared.window.Deal.{Deal}
use Rattle.window_core.specs.Deals.{live}
use Rattle.window_core.proofs.Deals.{live-live}
use Rattle.symbol_core.specs.declared.due.Due.{Due}
use Rattle.symbol_core.specs.Evaluates.{Evaluates}
use Rattle.symbol_core.specs.Idle.{IsDue}
use Rattle.symbol_core.specs.Rests.{SymbolState}
use Rattle.symbol_core.proofs.Evaluated.{evaluated-with}
use Rattle.symbol_core.proofs.Unmoved.{due-live, evaluated-due, evaluated-live}
use Rattle.symbol_core.proofs.symbol.Symbol.pass.Goals as goal

pub invariant_of-self : goal.invariant_of-self
invariant_of-self c =
    let k = c.self.inside.kept in
    let deals = c.self.inside.deals.deals in
    let due = c.in-Some.due in
    let t = c.moment-t.result in
    let is = subst (λ (o : Option Due). IsDue o k deals) c.in-Some.is c.self.invariant in
    subst (λ (ds : List Deal). IsDue (Some (record due { from = t })) k ds) (sym c.drop_old.ensures.deals) (due-live k deals due t (c.holds.ensures.from c.if-holds.true) is)

pub returns-in-Some-clause-nothing : goal.returns-in-Some-clause-nothing
returns-in-Some-clause-nothing c = λ passed before.
    let x = c.args.x.now in
    let market = c.args.market.now in
    let k = c.self.inside.kept in
    let deals = c.self.inside.deals.deals in
    let due = c.in-Some.due in
    let from = subst (λ (t : ℕ). due.from ≤ t) c.moment-t.ensures (c.holds.ensures.from c.if-holds.true) in
    let until = subst (λ (t : ℕ). t < due.until) c.moment-t.ensures (c.holds.ensures.until c.if-holds.true) in
    let is = subst (λ (o : Option Due). IsDue o k deals) c.in-Some.is c.self.invariant in
    let gone : c.drop_old.new.deals.deals ≡ live (moment_of x) deals = c.drop_old.ensures.deals ∙ ap (λ (t : ℕ). live t deals) c.moment-t.ensures in
    let held : SymbolState = record { kept = k; deals = deals; spare = c.self.inside.deals.spare } in
    let left = c.drop_old.new.deals.spare in
    subst (λ (old : SymbolState). Evaluates market x old (record { kept = k; deals = c.drop_old.new.deals.deals; spare = left }) before before) c.self.view_is
    (subst (λ (ds : List Deal). Evaluates market x held (record { kept = k; deals = ds; spare = left }) before before) (sym gone)
    (evaluated-with market x held (record { kept = k; deals = live (moment_of x) deals; spare = 0 }) held.spare left before before
    (evaluated-live market x held before c.requires
    (evaluated-due market x held due before is c.requires from until (c.holds.ensures.market c.if-holds.true)))))

pub returns-in-Some-clause-recent : goal.returns-in-Some-clause-recent
returns-in-Some-clause-recent c = λ passed.
    let t = moment_of c.args.x.now in
    let deals = c.self.inside.deals.deals in
    let gone : c.drop_old.new.deals.deals ≡ live t deals = c.drop_old.ensures.deals ∙ ap (λ (u : ℕ). live u deals) c.moment-t.ensures in
    ap (live t) gone ∙ live-live t t (omega arith) deals ∙ sym gone
