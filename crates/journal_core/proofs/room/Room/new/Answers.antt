use Rattle.std.proofs.Common.{◌≡◌, ℕ, List, [], ◌∷◌, ◌++◌, ap, sym, subst, ◌∙◌, arith}
use Rattle.std.specs.Int.{w32, to_be_bytes}
use Rattle.wire_in.specs.Bases.{base_bytes}
use Rattle.wire_in.specs.declared.base.Base.{Base}
use Rattle.journal_core.specs.Layout.{base_block, mark_of, marked}
use Rattle.journal_core.specs.Room.{IsRoom}
use Rattle.journal_core.proofs.FrameLemmas.{base_size}
use Rattle.journal_core.proofs.room.Room.new.Goals as goal

pub invariant_of-result : goal.invariant_of-result
invariant_of-result c =
    let base = c.args.base.now in
    let spelled = c.in_ok-put_base.ensures.spelled in
    let mark : c.mark_of-mark.result ≡ marked (mark_of (base_block base)) = c.mark_of-mark.ensures ∙ omega (arith, base_size (base_bytes base) base spelled) in
    subst (λ (b : Base). IsRoom b c.push.new.self.items) (sym c.of.ensures) (record {
      spelled = spelled;
      whole = c.in_ok-push.ensures.items
          ∙ ap (λ (l : List ℕ). l ++ 0 ∷ []) (c.in_ok-put_base.ensures.bytes ∙ ap (λ (l : List ℕ). l ++ base_bytes base) (c.in_ok-extend_from_slice.ensures.items ∙ ap (λ (l : List ℕ). l ++ c.to_be_bytes.result) c.new-bytes.ensures.items ∙ c.to_be_bytes.ensures) ∙ ap (λ (n : ℕ). to_be_bytes w32 n ++ base_bytes base) mark);
    })
