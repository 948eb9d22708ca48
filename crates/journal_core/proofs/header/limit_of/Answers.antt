use Rattle.std.proofs.Common.{inl, inr, sym, ◌∙◌, true≢false, arith}
use Rattle.journal_core.specs.Layout.{IsLimit}
use Rattle.journal_core.specs.Walk.{IsSigned}
use Rattle.journal_core.proofs.HeaderLemmas.{header_read}
use Rattle.journal_core.proofs.header.limit_of.Goals.{then-not-is_signed-via-then-not-is_signed, then-not-is_signed-via-else-not-is_signed+then-capacity-lt1, then-not-is_signed-via-else-not-is_signed+else-capacity-lt1+then-capacity-gt-LIMIT_MAX}
use Rattle.journal_core.proofs.header.limit_of.Goals as goal

pub returns : goal.returns
returns c =
    let bytes = c.args.bytes.now in
    let capacity = c.u64_at-capacity.result in
    let signed : IsSigned bytes = c.is_signed.ensures.0 c.if-not-is_signed.false in
    let range : IsLimit capacity = record { least = omega arith; most = omega arith } in
    (range, c.u64_at-capacity.ensures, header_read bytes capacity (λ i. omega (arith, c.type_inv.bytes i)) c.requires signed (sym c.u64_at-capacity.ensures))

pub returns-then-not-is_signed : goal.returns-then-not-is_signed
returns-then-not-is_signed c =
    elim c.then-not-is_signed.branch [
      | then-not-is_signed-via-then-not-is_signed w ↦ inl (λ signed. true≢false (sym (c.is_signed.ensures.1 signed) ∙ w.if-not-is_signed.true))
      | then-not-is_signed-via-else-not-is_signed+then-capacity-lt1 w ↦ inr (λ range. omega (arith, w.if-capacity-lt1.true, range.least, c.u64_at-capacity.ensures))
      | then-not-is_signed-via-else-not-is_signed+else-capacity-lt1+then-capacity-gt-LIMIT_MAX w ↦ inr (λ range. omega (arith, w.if-capacity-gt-LIMIT_MAX.true, range.most, c.u64_at-capacity.ensures))
    ]
