use Rattle.std.proofs.Common.{rules, arith, ◌≡◌, ◌<◌, List, ◌++◌, ◌∷◌, [], length, sym, subst}
use Rattle.std.specs.Borrow.{Bor}
use Rattle.merge_core.specs.declared.tagged.Tagged.{Tagged}
use Rattle.merge_core.specs.Merged.{further}
use Rattle.merge_core.specs.Weaving.{nows, IsFirstOfLeast}
use Rattle.merge_core.proofs.Woven.{Woven, starts, gives, goes_on, takes, all_woven}
use Rattle.merge_core.proofs.order.weave.Goals as goal

pub loop-nth-init : goal.loop-nth-init
loop-nth-init c = record { woven = starts c.args.first c.args.lists.now c.args.out.now.items c.requires.rise; room = c.requires.room }

pub after_first-rest-requires : goal.after_first-rest-requires
after_first-rest-requires c =
    let is_next : IsFirstOfLeast c.loop-nth.lists c.in-Some.nth = (c.in-Some.ensures).some in
    subst (λ (list : Bor (List Tagged)). 0 < length list.now) (sym c.index-lists-nth.is) (is_next.gives.some c.index-lists-nth.result)

pub push_reserved-requires : goal.push_reserved-requires
push_reserved-requires c =
    omega (arith, takes c.loop-nth.lists c.in-Some.nth c.index-lists-nth.result c.after_first-rest.result c.index-list-0.result (c.in-Some.ensures).some c.index-lists-nth.is c.index-list-0.is c.after_first-rest.ensures, c.loop-nth.invariant.room)

pub loop-nth-smaller : goal.loop-nth-smaller
loop-nth-smaller c =
    omega (arith, takes c.loop-nth.lists c.in-Some.nth c.index-lists-nth.result c.after_first-rest.result c.index-list-0.result (c.in-Some.ensures).some c.index-lists-nth.is c.index-list-0.is c.after_first-rest.ensures)

pub loop-nth-preserved : goal.loop-nth-preserved
loop-nth-preserved c =
    let left = c.loop-nth.lists in
    let m = c.index-list-0.result in
    let at = gives left c.in-Some.nth c.index-lists-nth.result c.after_first-rest.result c.index-list-0.result (c.in-Some.ensures).some c.index-lists-nth.is c.index-list-0.is c.after_first-rest.ensures in
    let pushed : c.push_reserved.new.self.items ≡ c.loop-nth.out.items ++ further c.args.first (m ∷ []) = search rules in
    record {
      woven = subst (Woven c.args.first (nows c.args.lists.now) _ c.args.out.now.items) (sym pushed)
          (goes_on c.args.first c.in-Some.nth (nows c.args.lists.now) left c.args.out.now.items c.loop-nth.out.items c.after_first-rest.result m c.loop-nth.invariant.woven (c.in-Some.ensures).some at);
      room = omega (arith, takes left c.in-Some.nth c.index-lists-nth.result c.after_first-rest.result c.index-list-0.result (c.in-Some.ensures).some c.index-lists-nth.is c.index-list-0.is c.after_first-rest.ensures, c.loop-nth.invariant.room, c.push_reserved.ensures.len, c.push_reserved.ensures.capacity);
    }

pub returns-clause-merged : goal.returns-clause-merged
returns-clause-merged c =
    all_woven c.args.first (nows c.args.lists.now) c.loop-nth.lists c.args.out.now.items c.loop-nth.out.items c.loop-nth.invariant.woven (c.first_of_least.ensures.none c.in_default.is)
