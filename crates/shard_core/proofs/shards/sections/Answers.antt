use Rattle.std.proofs.Common.{◌≡◌, ℕ, ◌+◌, sym, subst, arith}
use Rattle.shard_core.specs.Turns.{AreEmpty}
use Rattle.shard_core.proofs.Opening.{empty_on, none_empty}
use Rattle.shard_core.proofs.shards.sections.Goals as goal

pub loop-index-init : goal.loop-index-init
loop-index-init c = record {
  empty = subst (AreEmpty 0) (sym (c.in_ok-parts.ensures).items) none_empty;
  len = (c.in_ok-parts.ensures).len;
  room = omega (arith, (c.in_ok-parts.ensures).exact);
}

pub loop-index-preserved : goal.loop-index-preserved
loop-index-preserved c = record {
  empty = subst (AreEmpty (c.loop-index._index + 1)) (sym c.push_reserved.ensures.items)
      (empty_on c.loop-index._index c.loop-index.parts.items c.in_ok-part.part c.loop-index.invariant.empty c.in_ok-part.ensures);
  len = omega (arith, c.push_reserved.ensures.len, c.loop-index.invariant.len);
  room = omega (arith, c.push_reserved.ensures.capacity, c.loop-index.invariant.room);
}

pub returns : goal.returns
returns c =
    let all : c.loop-index._index ≡ c.args.count = omega (arith, c.loop-index-test.false, c.loop-index.auto._index-end) in
    subst (λ (n : ℕ). AreEmpty n c.loop-index.parts.items) all c.loop-index.invariant.empty
