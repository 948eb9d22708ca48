use Rattle.std.proofs.Common.{◌≡◌, ℕ, length, take, drop, refl, sym, ap, ◌∙◌, arith, rules}
use Rattle.journal_core.specs.Layout.{frames_of}
use Rattle.journal_core.proofs.AtGateLemmas.{content_read, read_content}
use Rattle.journal_core.proofs.at_gate.read_content.Goals.{then-bytes-end-via-then-bytes-end, then-bytes-end-via-else-bytes-end+then-not-read_frames}
use Rattle.journal_core.proofs.at_gate.read_content.Goals as goal

pub returns-then-bytes-end : goal.returns-then-bytes-end
returns-then-bytes-end c batch rest valid is =
    let bytes = c.args.bytes.now in
    let read = content_read batch bytes rest valid is in
    let size : c.u32_at.result ≡ length (frames_of batch) = c.u32_at.ensures ∙ read.size in
    let whole = read.whole in
    elim c.then-bytes-end.branch [
      | then-bytes-end-via-then-bytes-end w ↦ omega arith
      | then-bytes-end-via-else-bytes-end+then-not-read_frames w ↦
          w.if-not-read_frames.ensures.refused refl batch valid (ap (λ (k : ℕ). take k (drop 4 bytes)) (omega arith) ∙ read.frames)
    ]

pub returns : goal.returns
returns c =
    let bytes = c.args.bytes.now in
    let n = c.u32_at.result in
    let taken = c.if-not-read_frames.ensures.taken (search rules) in
    let frames : take n (drop 4 bytes) ≡ frames_of c.read_frames.new.into = ap (λ (k : ℕ). take k (drop 4 bytes)) (omega arith) ∙ taken.1 in
    let read = read_content c.read_frames.new.into bytes n (λ i. omega (arith, c.type_inv.bytes i)) (sym c.u32_at.ensures) (omega arith) frames in
    (taken.0, read.0, omega (arith, read.1), omega arith)
