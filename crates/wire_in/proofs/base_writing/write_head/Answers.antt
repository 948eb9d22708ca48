use Rattle.std.proofs.Common.{◌∙◌, ◌++◌, List, ℕ, ap}
use Rattle.std.specs.Int.{w64, to_be_bytes}
use Rattle.wire_core.specs.Frames.{framed}
use Rattle.wire_in.specs.Spelling.{body_of}
use Rattle.wire_in.proofs.BaseWriting.{head_order}
use Rattle.wire_in.proofs.base_writing.write_head.Goals as goal

pub returns-clause-items : goal.returns-clause-items
returns-clause-items c =
    let b = c.args.b.now in
    let old = c.args.into.now.items in
    let r = to_be_bytes w64 b.records in
    let m = to_be_bytes w64 b.messages in
    let d = framed (body_of b.day) in
    let first = c.write.ensures.items ∙ ap (λ (t : List ℕ). old ++ t) c.to_be_bytes.ensures in
    let second = c.write-2.ensures.items ∙ (λ i. first i ++ c.to_be_bytes-2.ensures i) in
    c.write_day.ensures.items ∙ ap (λ (t : List ℕ). t ++ d) second ∙ head_order old r m d
