use Rattle.std.proofs.Common.{ℕ, List, Some, length, ap, ◌∙◌, arith}
use Rattle.std.specs.Prelude.{slice_get}
use Rattle.symbol_core.specs.Rests.{SymbolState}
use Rattle.market_core.proofs.Sections.{first_on, later_on, next_on}
use Rattle.market_core.proofs.section.Section.tick.Goals as goal

pub loop-index-init : goal.loop-index-init
loop-index-init c =
    let first = c.next_due-index in
    let same = first.ensures.symbols ∙ c.begin_tick.ensures.symbols in
    record {
      appends = first_on first.result c.args.market.now c.args.x.now c.args.self.now.symbols c.begin_tick.new.self.symbols first.new.self.symbols c.args.out.now.items
          c.begin_tick.ensures.symbols first.ensures.symbols first.ensures.end first.ensures.none;
      later = λ k from. ap (λ (stocks : List SymbolState). slice_get stocks k) same;
      count = ap length same;
      within = omega (arith, first.ensures.end, c.len-count.ensures);
      since = first.ensures.since ∙ c.begin_tick.ensures.since ∙ ap (λ (t : ℕ). Some (record { from = t; market = c.args.market.now })) c.moment.ensures;
      spare = omega (arith, first.ensures.spare, c.begin_tick.ensures.spare);
      room = omega arith;
      len = omega arith;
    }

pub loop-index-preserved : goal.loop-index-preserved
loop-index-preserved c =
    let now = c.loop-index in
    let next = c.next_due-index-in-loop-index in
    let market = c.args.market.now in
    let x = c.args.x.now in
    let old = c.args.self.now.symbols in
    let due = c.evaluate_due in
    let one = due.new.self.symbols in
    let begun = ap length c.begin_tick.ensures.symbols in
    record {
      appends = next_on now.index next.result market x old now.self.symbols one next.new.self.symbols c.args.out.now.items now.out.items due.new.out.items
          now.invariant.later now.invariant.appends due.ensures.one next.ensures.symbols next.ensures.from next.ensures.end next.ensures.none;
      later = later_on now.index next.result market x old now.self.symbols one next.new.self.symbols now.out.items due.new.out.items
          now.invariant.later due.ensures.one next.ensures.symbols next.ensures.from;
      count = ap length next.ensures.symbols ∙ due.ensures.one.count ∙ now.invariant.count;
      within = omega (arith, next.ensures.end, due.ensures.one.count, now.invariant.count, c.len-count.ensures, begun);
      since = next.ensures.since ∙ due.ensures.since ∙ now.invariant.since;
      spare = omega (arith, now.invariant.spare, due.ensures.spare, next.ensures.spare);
      room = omega (arith, now.invariant.room, due.ensures.room);
      len = omega (arith, now.invariant.len, due.ensures.len, next.ensures.from);
    }
