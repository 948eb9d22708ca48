use Rattle.std.proofs.Common.{◌∙◌, ◌++◌, List, ℕ, length, get_or, take, ap, sym, arith, append_assoc}
use Rattle.std.specs.Int.{w16, to_be_bytes}
use Rattle.std.specs.List.{flat_map}
use Rattle.wire_in.proofs.BaseParts.{flat_more}
use Rattle.wire_in.proofs.base_writing.write_ids.Goals as goal

pub loop-id-preserved : goal.loop-id-preserved
loop-id-preserved c =
    let i = c.loop-id.id-index in
    let ids = c.args.ids.now in
    let id = get_or ids i 0 in
    let old = c.args.into.now.items in
    let before = c.loop-id.invariant in
    record {
      items = c.write.ensures.items
          ∙ ap (λ (t : List ℕ). c.loop-id.into.items ++ t) c.to_be_bytes.ensures
          ∙ ap (λ (t : List ℕ). t ++ to_be_bytes w16 id) before.items
          ∙ append_assoc old (flat_map (to_be_bytes w16) (take i ids)) (to_be_bytes w16 id)
          ∙ ap (λ (t : List ℕ). old ++ t) (sym (flat_more (to_be_bytes w16) ids i 0 c.loop-id-test.true));
      len = omega (arith, c.write.ensures.len, before.len, ap length c.to_be_bytes.ensures);
      room = omega (arith, c.write.ensures.capacity, before.room);
    }
