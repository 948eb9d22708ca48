use Rattle.std.proofs.Common.{◌≡◌, ◌∙◌, ◌++◌, [], List, ℕ, length, get_or, take, ap, sym, arith, append_assoc}
use Rattle.std.specs.List.{flat_map}
use Rattle.wire_in.proofs.BaseParts.{flat_more}
use Rattle.wire_in.proofs.base_writing.write_names.Goals as goal

pub write-requires : goal.write-requires
write-requires c =
    let eight = c.requires.sizes c.loop-name.name-index [] c.loop-name-test.true in
    omega (arith, eight, c.loop-name.invariant.len, c.loop-name.invariant.room, c.requires.room)

pub loop-name-preserved : goal.loop-name-preserved
loop-name-preserved c =
    let i = c.loop-name.name-index in
    let names = c.args.names.now in
    let name = get_or names i [] in
    let old = c.args.into.now.items in
    let before = c.loop-name.invariant in
    let eight : length name ≡ 8 = c.requires.sizes i [] c.loop-name-test.true in
    record {
      items = c.write.ensures.items
          ∙ ap (λ (t : List ℕ). t ++ name) before.items
          ∙ append_assoc old (flat_map (λ (n : List ℕ). n) (take i names)) name
          ∙ ap (λ (t : List ℕ). old ++ t) (sym (flat_more (λ (n : List ℕ). n) names i [] c.loop-name-test.true));
      len = omega (arith, c.write.ensures.len, before.len, eight);
      room = omega (arith, c.write.ensures.capacity, before.room);
    }
