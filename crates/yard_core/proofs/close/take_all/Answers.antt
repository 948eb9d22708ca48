use Rattle.std.proofs.Common.{◌≡◌, ℕ, ◌+◌, ◌<◌, ◌∷◌, [], ◌++◌, map, take, length, false, get_or, Some, sym, ap, ◌∙◌, subst, arith}
use mathlib.Core.Option.{some}
use lib.ListN.{get_elem?}
use Rattle.std.specs.Slots.{slots_items, slots_len, slots_filled, slots_counts}
use Rattle.std.proofs.lemmas.List.{map-append}
use Rattle.yard_core.proofs.SlotJobs.{take_next, same_at, emptied_below, filled_from, is_some_of}
use Rattle.yard_core.proofs.close.take_all.Goals as goal

pub unwrap-requires : goal.unwrap-requires
unwrap-requires g c =
    let inv = c.loop-i.invariant in
    let its = c.requires.jobs c.loop-i.i (omega (arith, c.loop-i-test.true, c.slot_count-i-end.ensures)) in
    let here : get_elem? (slots_items c.args.closed.slots) c.loop-i.i ≡ some c.take.result = subst (λ xs. get_elem? xs c.loop-i.i ≡ some c.take.result) inv.0 c.take.ensures.value in
    is_some_of c.take.result its.0 (same_at (slots_items c.args.closed.slots) c.loop-i.i c.take.result (Some its.0) here its.1)

pub loop-i-preserved : goal.loop-i-preserved
loop-i-preserved g c =
    let inv = c.loop-i.invariant in
    let others = c.take.ensures.others in
    let pushed = c.push_reserved.ensures in
    let i : ℕ = c.loop-i.i in
    let old = c.loop-i.closed.slots in
    let near : i < length (slots_filled old) = omega (arith, c.loop-i-test.true, c.slot_count-i-end.ensures, inv.1, (slots_counts old).1) in
    let here : get_elem? (slots_items old) i ≡ some (Some c.unwrap.result) = c.take.ensures.value ∙ ap some c.unwrap.ensures in (
      others.0 ∙ inv.0,
      others.2 ∙ inv.1,
      λ k after before. ap (λ fs. get_or fs k false) others.1 ∙ filled_from (slots_filled old) i (slots_len old) inv.2 k after (omega (arith, others.2)),
      λ k before. ap (λ fs. get_or fs k false) others.1 ∙ emptied_below (slots_filled old) i near inv.3 k before,
      ap (map Some) pushed.items ∙ (map-append Some c.loop-i.jobs.items (c.unwrap.result ∷ []) ∙ ((λ t. inv.4 t ++ Some c.unwrap.result ∷ []) ∙ (sym (take_next (slots_items old) i (Some c.unwrap.result) here) ∙ ap (take (i + 1)) (sym others.0)))),
      omega (arith, pushed.len, inv.5),
      omega (arith, pushed.capacity, inv.6, others.2),
    )
