use Rattle.std.proofs.Common.{ℕ, ◌<◌, ◌≤◌, ◌≡◌, sym, ap, subst, ◌∙◌, arith}
use Rattle.std.specs.Prelude.{Option, Some}
use Rattle.wire_in.specs.Records.{moment_of}
use Rattle.window_core.specs.Deals.{live}
use Rattle.window_core.proofs.Deals.{live-live}
use Rattle.symbol_core.specs.declared.due.Due.{Due}
use Rattle.symbol_core.specs.Evaluates.{Evaluates}
use Rattle.symbol_core.specs.Idle.{IsDue}
use Rattle.symbol_core.specs.Rests.{SymbolState}
use Rattle.symbol_core.specs.Ticks.{Idles}
use Rattle.symbol_core.proofs.Evaluated.{evaluated-with}
use Rattle.symbol_core.proofs.Quoted.{quoted, quoted-due, quoted-evaluated, quoted-idles, settled-market}
use Rattle.symbol_core.proofs.symbol.Symbol.pass_quote.Goals as goal

pub invariant_of-self : goal.invariant_of-self
invariant_of-self c =
    let k = c.self.inside.kept in
    let deals = c.self.inside.deals.deals in
    let due = c.in-Some-due.due in
    let quote = c.in-Some.quote in
    let t = c.moment-t.result in
    let is = subst (λ (o : Option Due). IsDue o k deals) c.in-Some-due.is c.self.invariant in
    let same = c.holds.ensures.market c.if-holds.true in
    let by = c.stays_settled.ensures in
    let yes = c.if-stays_settled.true in
    let settled = by.settled yes (settled-market k deals due c.args.market.now is (by.listed yes) same) in
    let left : record { kept = c.take_quote.new.self; deals = c.drop_old.new.deals.deals; spare = 0 } ≡ quoted (record { kept = k; deals = deals; spare = 0 }) t quote = λ i. record { kept = c.take_quote.ensures i; deals = c.drop_old.ensures.deals i; spare = 0 } in
    subst (λ (held : SymbolState). IsDue (Some (record due { from = t })) held.kept held.deals) (sym left)
    (quoted-due k deals due t quote c.args.market.now is (c.holds.ensures.from c.if-holds.true) same (by.run yes) settled)

pub returns-in-Some-due-clause-nothing : goal.returns-in-Some-due-clause-nothing
returns-in-Some-due-clause-nothing c = λ passed before.
    let x = c.args.x.now in
    let market = c.args.market.now in
    let k = c.self.inside.kept in
    let deals = c.self.inside.deals.deals in
    let due = c.in-Some-due.due in
    let quote = c.in-Some.quote in
    let from = subst (λ (t : ℕ). due.from ≤ t) c.moment-t.ensures (c.holds.ensures.from c.if-holds.true) in
    let until = subst (λ (t : ℕ). t < due.until) c.moment-t.ensures (c.holds.ensures.until c.if-holds.true) in
    let is = subst (λ (o : Option Due). IsDue o k deals) c.in-Some-due.is c.self.invariant in
    let same = c.holds.ensures.market c.if-holds.true in
    let by = c.stays_settled.ensures in
    let yes = c.if-stays_settled.true in
    let settled = by.settled yes (settled-market k deals due market is (by.listed yes) same) in
    let held : SymbolState = record { kept = k; deals = deals; spare = 0 } in
    let new : SymbolState = record { kept = c.take_quote.new.self; deals = c.drop_old.new.deals.deals; spare = 0 } in
    let left : new ≡ quoted held (moment_of x) quote =
    (λ i. record { kept = c.take_quote.ensures i; deals = c.drop_old.ensures.deals i; spare = 0 }) ∙ ap (λ (t : ℕ). quoted held t quote) c.moment-t.ensures in
    let room = c.drop_old.new.deals.spare in
    subst (λ (old : SymbolState). Evaluates market x old (record new { spare = room }) before before) c.self.view_is
    (evaluated-with market x held new c.self.inside.deals.spare room before before
    (subst (λ (is : SymbolState). Evaluates market x held is before before) (sym left)
    (quoted-evaluated market x k deals due quote before is (by.listed yes) from until same (by.run yes) settled
    (sym c.quoted_by.ensures ∙ c.in-Some.is))))

pub returns-in-Some-due-clause-idles : goal.returns-in-Some-due-clause-idles
returns-in-Some-due-clause-idles c = λ passed over from until later idles.
    let k = c.self.inside.kept in
    let deals = c.self.inside.deals.deals in
    let quote = c.in-Some.quote in
    let is = subst (λ (o : Option Due). IsDue o k deals) c.in-Some-due.is c.self.invariant in
    let by = c.stays_settled.ensures in
    let yes = c.if-stays_settled.true in
    let settled = by.settled yes (settled-market k deals c.in-Some-due.due c.args.market.now is (by.listed yes) (c.holds.ensures.market c.if-holds.true)) in
    let held : SymbolState = record { kept = k; deals = deals; spare = 0 } in
    let t = moment_of c.args.x.now in
    let left : record { kept = c.take_quote.new.self; deals = c.drop_old.new.deals.deals; spare = 0 } ≡ quoted held t quote =
    (λ i. record { kept = c.take_quote.ensures i; deals = c.drop_old.ensures.deals i; spare = 0 }) ∙ ap (λ (t : ℕ). quoted held t quote) c.moment-t.ensures in
    subst (λ (is : SymbolState). Idles over from until is) (sym left)
    (quoted-idles over from until t held quote c.args.market.now.stopped later (by.run yes) settled (subst (λ (is : SymbolState). Idles over from until is) (sym c.self.view_is) idles))

pub returns-in-Some-due-clause-recent : goal.returns-in-Some-due-clause-recent
returns-in-Some-due-clause-recent c = λ passed.
    let t = moment_of c.args.x.now in
    let deals = c.self.inside.deals.deals in
    let gone : c.drop_old.new.deals.deals ≡ live t deals = c.drop_old.ensures.deals ∙ ap (λ (u : ℕ). live u deals) c.moment-t.ensures in
    ap (live t) gone ∙ live-live t t (omega arith) deals ∙ sym gone
