use Rattle.std.proofs.Common.{◌≡◌, ◌∙◌, ◌+◌, ◌*◌, ◌≤◌, ◌∷◌, [], ℕ, length, take, sym, ap, subst, arith, length-append}
use Rattle.std.specs.Prelude.{All}
use Rattle.std.specs.Int.{w16, to_be_bytes}
use Rattle.std.specs.List.{flat_map}
use Rattle.std.proofs.lemmas.List.{take_all}
use Rattle.std.proofs.lemmas.List.Elements.{All-nil, All-push}
use Rattle.wire_core.proofs.Cells.{IsBytes, wide16, number_below}
use Rattle.wire_in.proofs.BaseParts.{pieces_more, two_spelled}
use Rattle.wire_in.proofs.OneBase.{IsId}
use Rattle.wire_in.proofs.base_reading.ids_of.Goals as goal

pub loop-i-init : goal.loop-i-init
loop-i-init c = record {
  bytes = ap (flat_map (to_be_bytes w16)) c.new-ids.ensures;
  range = subst (All IsId) (sym c.new-ids.ensures) (All-nil IsId);
  count = ap length c.new-ids.ensures;
}

pub loop-i-preserved : goal.loop-i-preserved
loop-i-preserved c =
    let i = c.loop-i.i in
    let before = c.loop-i.invariant in
    let ids = c.loop-i.ids in
    let id = c.u16_at.result in
    let bytes = c.args.bytes.now in
    let fits : IsBytes bytes = λ k. omega (arith, c.type_inv.bytes k) in
    let within : 2 * i + 2 ≤ length bytes = omega (arith, c.requires, c.loop-i-test.true, c.loop-i.auto.i-end) in
    let added = (c.in_ok-push.ensures).added in
    record {
      bytes = ap (flat_map (to_be_bytes w16)) added
          ∙ pieces_more (to_be_bytes w16) 2 ids id (2 * i) bytes before.bytes (ap (to_be_bytes w16) c.u16_at.ensures ∙ two_spelled (2 * i) bytes fits within)
          ∙ ap (λ (n : ℕ). take n bytes) (omega arith);
      range = subst (All IsId) (sym added) (All-push IsId ids id before.range (subst IsId (sym c.u16_at.ensures) (number_below wide16 (2 * i) bytes fits)));
      count = ap length added ∙ length-append ids (id ∷ []) ∙ omega (arith, before.count);
    }

pub returns-clause-bytes : goal.returns-clause-bytes
returns-clause-bytes c =
    let all : c.loop-i.i ≡ c.args.count = omega (arith, c.loop-i-test.false, c.loop-i.auto.i-end) in
    c.loop-i.invariant.bytes ∙ take_all (2 * c.loop-i.i) c.args.bytes.now (omega (arith, all, c.requires))

pub returns-clause-range : goal.returns-clause-range
returns-clause-range c = c.loop-i.invariant.range

pub returns-clause-count : goal.returns-clause-count
returns-clause-count c = c.loop-i.invariant.count ∙ omega (arith, c.loop-i-test.false, c.loop-i.auto.i-end)
