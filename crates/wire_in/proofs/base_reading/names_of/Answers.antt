use Rattle.std.proofs.Common.{◌≡◌, ◌∙◌, ◌*◌, ◌∷◌, [], List, ℕ, length, take, sym, ap, subst, arith, length-append}
use Rattle.std.specs.Prelude.{All}
use Rattle.std.specs.List.{flat_map}
use Rattle.std.proofs.lemmas.List.{take_all}
use Rattle.std.proofs.lemmas.List.Elements.{All-nil, All-push}
use Rattle.wire_in.proofs.BaseParts.{pieces_more}
use Rattle.wire_in.proofs.OneBase.{IsEight}
use Rattle.wire_in.proofs.base_reading.names_of.Goals as goal

pub loop-i-init : goal.loop-i-init
loop-i-init c = record {
  bytes = ap (flat_map (λ name. name)) c.new-names.ensures;
  sizes = subst (All IsEight) (sym c.new-names.ensures) (All-nil IsEight);
  count = ap length c.new-names.ensures;
}

pub loop-i-preserved : goal.loop-i-preserved
loop-i-preserved c =
    let i = c.loop-i.i in
    let before = c.loop-i.invariant in
    let names = c.loop-i.names in
    let name = c.eight_at.result in
    let bytes = c.args.bytes.now in
    let added = (c.in_ok-push.ensures).added in
    record {
      bytes = ap (flat_map (λ name. name)) added
          ∙ pieces_more (λ (name : List ℕ). name) 8 names name (8 * i) bytes before.bytes c.eight_at.ensures.bytes
          ∙ ap (λ (n : ℕ). take n bytes) (omega arith);
      sizes = subst (All IsEight) (sym added) (All-push IsEight names name before.sizes c.eight_at.ensures.len);
      count = ap length added ∙ length-append names (name ∷ []) ∙ omega (arith, before.count);
    }

pub returns-clause-bytes : goal.returns-clause-bytes
returns-clause-bytes c =
    let all : c.loop-i.i ≡ c.args.count = omega (arith, c.loop-i-test.false, c.loop-i.auto.i-end) in
    c.loop-i.invariant.bytes ∙ take_all (8 * c.loop-i.i) c.args.bytes.now (omega (arith, all, c.requires))

pub returns-clause-sizes : goal.returns-clause-sizes
returns-clause-sizes c = c.loop-i.invariant.sizes

pub returns-clause-count : goal.returns-clause-count
returns-clause-count c = c.loop-i.invariant.count ∙ omega (arith, c.loop-i-test.false, c.loop-i.auto.i-end)
