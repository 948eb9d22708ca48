use Rattle.std.proofs.Common.{ℕ, List, ◌≡◌, ◌≤◌, length, sym, ap, subst, ◌∙◌, arith}
use Rattle.std.specs.Int.{div_ceil}
use Rattle.std.proofs.lemmas.List.{with_items_is}
use Rattle.alarms.specs.Bounds.{AreBounds}
use Rattle.alarms.proofs.Bounded.{cleared, cleared-length, cleared_both}
use Rattle.alarms.proofs.alarms.Alarms.make_due.Goals as goal

both_cleared : (above below news_above news_below : List ℕ) (blocks count : ℕ) → news_above ≡ cleared blocks above → news_below ≡ cleared count below
    → AreBounds above below → count ≤ length below → blocks ≡ div_ceil count 8 → AreBounds news_above news_below
both_cleared above below news_above news_below blocks count above_is below_is are within is =
    subst (λ (b : List ℕ). AreBounds b news_below) (sym above_is) (subst (λ (b : List ℕ). AreBounds (cleared blocks above) b) (sym below_is)
    (cleared_both above below blocks count are within (omega (arith, is)) (omega (arith, is))))

-- 64 places are 8 blocks
by64 : (count groups blocks : ℕ) → groups ≡ div_ceil count 64 → blocks ≡ div_ceil count 8 → groups ≡ div_ceil blocks 8
by64 count groups blocks is are = omega (arith, is, are)

pub invariant_of-self : goal.invariant_of-self
invariant_of-self c =
    let own = c.self.inside in
    let places = c.args.count in
    let blocks = c.div_ceil.result in
    let within : places ≤ length own.moments.items = omega (arith, c.requires, ap length c.self.view_is) in
    let enough = c.self.invariant.of_places.enough in
    let block_within : blocks ≤ length own.bounds.items = omega (arith, c.div_ceil.ensures, within, enough, c.self.invariant.of_places.few) in
    let group_within : c.div_ceil-2.result ≤ length own.groups.items = omega (arith, c.div_ceil-2.ensures, within, enough, c.self.invariant.of_bounds.enough) in
    let first = c.clear_first.ensures ∙ ap (cleared places) c.deref_mut.ensures.value in
    let second = c.clear_first-2.ensures ∙ ap (cleared blocks) c.deref_mut-2.ensures.value in
    let third = c.clear_first-3.ensures ∙ ap (cleared c.div_ceil-2.result) c.deref_mut-3.ensures.value in
    let first_is = with_items_is own.moments c.clear_first.new.numbers (omega (arith, ap length first, cleared-length places own.moments.items within, own.moments.ok.0)) ∙ first in
    let second_is = with_items_is own.bounds c.clear_first-2.new.numbers (omega (arith, ap length second, cleared-length blocks own.bounds.items block_within, own.bounds.ok.0)) ∙ second in
    let third_is = with_items_is own.groups c.clear_first-3.new.numbers (omega (arith, ap length third, cleared-length c.div_ceil-2.result own.groups.items group_within, own.groups.ok.0)) ∙ third in
    record {
      of_places = both_cleared own.bounds.items own.moments.items _ _ blocks places second_is first_is c.self.invariant.of_places within c.div_ceil.ensures;
      of_bounds = both_cleared own.groups.items own.bounds.items _ _ c.div_ceil-2.result blocks third_is second_is c.self.invariant.of_bounds block_within
          (by64 places c.div_ceil-2.result blocks c.div_ceil-2.ensures c.div_ceil.ensures);
    }

pub returns : goal.returns
returns c =
    let own = c.self.inside in
    let places = c.args.count in
    let within : places ≤ length own.moments.items = omega (arith, c.requires, ap length c.self.view_is) in
    let first = c.clear_first.ensures ∙ ap (cleared places) c.deref_mut.ensures.value in
    with_items_is own.moments c.clear_first.new.numbers (omega (arith, ap length first, cleared-length places own.moments.items within, own.moments.ok.0)) ∙ first ∙ ap (cleared places) c.self.view_is
