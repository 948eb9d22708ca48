use Rattle.std.proofs.Common.{◌≡◌, ℕ, ◌<◌, ◌≤◌, false, refl, sym, subst, ◌∙◌}
use Rattle.std.specs.Prelude.{Option, Some, None}
use Rattle.window_core.specs.Deals.{live}
use Rattle.symbol_core.specs.declared.due.Due.{Due}
use Rattle.symbol_core.specs.declared.state.Kept.{Kept}
use Rattle.symbol_core.specs.Idle.{HasTaken, IsDue, IsStill, MayMove}
use Rattle.symbol_core.specs.Kept.{with_quote}
use Rattle.symbol_core.specs.Rests.{SymbolState}
use Rattle.symbol_core.specs.Steps.{step_for}
use Rattle.symbol_core.proofs.Dealt.{due-still}
use Rattle.symbol_core.proofs.Evaluated.{away, step-obeyed}
use Rattle.symbol_core.proofs.Quoted.{quoted-due, settled-market}
use Rattle.symbol_core.proofs.Repriced.{is-quotation, quoted-moves}
use Rattle.symbol_core.proofs.symbol.Symbol.take_awaited_quote.Goals as goal

pub take_deal-requires-clause-moves : goal.take_deal-requires-clause-moves
take_deal-requires-clause-moves c =
    let x = c.args.x.now in
    let market = c.args.market.now in
    let k = c.self.inside.kept in
    let deals = c.self.inside.deals.deals in
    let due = c.in-Some-due.due in
    let quote = c.in-Some.quote in
    let from = subst (λ (t : ℕ). due.from ≤ t) c.moment-t.ensures (c.brings_price.ensures.from c.if-brings_price.true) in
    let until = subst (λ (t : ℕ). t < due.waits) c.moment-t.ensures (c.brings_price.ensures.until c.if-brings_price.true) in
    let is = subst (λ (o : Option Due). IsDue o k deals) c.in-Some-due.is c.self.invariant in
    let same = c.brings_price.ensures.market c.if-brings_price.true in
    let by = c.may_move_by.ensures in
    let yes = c.if-may_move_by.true in
    let settled = by.settled yes (settled-market k deals due market is (by.listed yes) same) in
    let quotation = is-quotation k market x quote (sym c.quoted_by.ensures ∙ c.in-Some.is) in
    subst (λ (l : Kept). MayMove l market x None) (sym c.take_quote.ensures)
    (quoted-moves market x k deals due quote is from until same quotation.often (by.priced yes) (by.listed yes) (by.run yes) settled)

pub take_deal-requires-clause-due : goal.take_deal-requires-clause-due
take_deal-requires-clause-due c =
    let market = c.args.market.now in
    let k = c.self.inside.kept in
    let deals = c.self.inside.deals.deals in
    let due = c.in-Some-due.due in
    let quote = c.in-Some.quote in
    let t = c.moment-t.result in
    let is = subst (λ (o : Option Due). IsDue o k deals) c.in-Some-due.is c.self.invariant in
    let same = c.brings_price.ensures.market c.if-brings_price.true in
    let by = c.may_move_by.ensures in
    let yes = c.if-may_move_by.true in
    let settled = by.settled yes (settled-market k deals due market is (by.listed yes) same) in
    let later : Due = record due { from = t } in
    subst (λ (l : Kept). IsStill l later) (sym c.take_quote.ensures)
    (due-still (Some later) (with_quote k quote) (live t deals) (quoted-due k deals due t quote market is (c.brings_price.ensures.from c.if-brings_price.true) same (by.run yes) settled) (by.listed yes))

pub returns-in-Some-due-clause-takes : goal.returns-in-Some-due-clause-takes
returns-in-Some-due-clause-takes c = λ taken.
    let x = c.args.x.now in
    let market = c.args.market.now in
    let k = c.self.inside.kept in
    let deals = c.self.inside.deals.deals in
    let quotation = is-quotation k market x c.in-Some.quote (sym c.quoted_by.ensures ∙ c.in-Some.is) in
    step-obeyed market x c.args.self.now k deals deals c.self.inside.deals.spare
    (record { kept = c.take_deal.new.k; deals = c.take_deal.new.deals.deals; spare = c.take_deal.new.deals.spare }) c.args.out.now c.args.out.now c.take_deal.new.out (step_for market x)
    c.self.view_is refl refl refl quotation.no_day (subst (λ (held : SymbolState). away x held.kept.terms ≡ false) c.self.view_is quotation.here)
    (c.take_deal.ensures.steps k (subst (λ (l : Kept). HasTaken k l market x None) (sym c.take_quote.ensures) quotation.has))
