use Rattle.std.proofs.Common.{◌∙◌, ◌++◌, List, ℕ, length, ap, refl, arith}
use Rattle.std.specs.Int.{w16, w64, to_be_bytes}
use Rattle.std.specs.List.{flat_map}
use Rattle.wire_core.specs.Frames.{framed}
use Rattle.wire_in.specs.Spelling.{body_of}
use Rattle.wire_in.proofs.BaseWriting.{all_order}
use Rattle.wire_in.proofs.OneBase.{few_carried}
use Rattle.wire_in.proofs.base_writing.put_base.Goals as goal

pub write_count-requires-2-clause-few : goal.write_count-requires-2-clause-few
write_count-requires-2-clause-few c = omega (arith, ap length c.list-carried.ensures, few_carried c.args.b.now c.requires)

pub returns-clause-bytes : goal.returns-clause-bytes
returns-clause-bytes c =
    let b = c.args.b.now in
    let old = c.args.into.now.items in
    let r = to_be_bytes w64 b.records in
    let m = to_be_bytes w64 b.messages in
    let d = framed (body_of b.day) in
    let names = c.list-names.result.now in
    let carried = c.list-carried.result.now in
    let n = to_be_bytes w16 (length names) in
    let ns = flat_map (λ (name : List ℕ). name) names in
    let i = to_be_bytes w16 (length carried) in
    let is = flat_map (to_be_bytes w16) carried in
    let head = c.write_head.ensures.items ∙ ap (λ (t : List ℕ). t ++ (r ++ (m ++ d))) (c.in_ok-reserve.ensures).items in
    let counted = c.write_count.ensures.items ∙ ap (λ (t : List ℕ). t ++ n) head in
    let named = c.write_names.ensures.items ∙ ap (λ (t : List ℕ). t ++ ns) counted in
    let again = c.write_count-2.ensures.items ∙ ap (λ (t : List ℕ). t ++ i) named in
    c.write_ids.ensures.items
    ∙ ap (λ (t : List ℕ). t ++ is) again
    ∙ all_order old r m d n ns i is
    ∙ ap (λ (xs : List (List ℕ)). old ++ (r ++ (m ++ (d ++ (to_be_bytes w16 (length xs) ++ (flat_map (λ (name : List ℕ). name) xs ++ (i ++ is))))))) c.list-names.ensures
    ∙ ap (λ (xs : List ℕ). old ++ (r ++ (m ++ (d ++ (to_be_bytes w16 (length b.names) ++ (flat_map (λ (name : List ℕ). name) b.names ++ (to_be_bytes w16 (length xs) ++ flat_map (to_be_bytes w16) xs))))))) c.list-carried.ensures

pub returns-clause-spelled : goal.returns-clause-spelled
returns-clause-spelled c = record { ranges = c.requires; sound = c.write_head.ensures.sound; bytes = refl }
