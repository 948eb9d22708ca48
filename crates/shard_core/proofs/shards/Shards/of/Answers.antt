use Rattle.std.proofs.Common.{◌≡◌, length, ap, arith}
use Rattle.std.proofs.lemmas.List.{with_items_is}
use Rattle.shard_core.proofs.Opening.{as_many}
use Rattle.shard_core.proofs.shards.Shards.of.Goals as goal

pub invariant_of-result : goal.invariant_of-result
invariant_of-result c =
    let parts = c.in_ok-parts.parts in
    let news = c.deal_evenly.new.parts in
    let many : length news ≡ parts.len = omega (arith, c.deal_evenly.ensures.parts, ap length c.deref_mut.ensures.value, parts.ok.0) in
    as_many (length c.in_ok-told.told.items) parts.items news _ (with_items_is parts news many) (omega (arith, many, parts.ok.0))
    (omega (arith, c.in_ok-parts.ensures.number, c.requires.workers.0)) (omega (arith, c.in_ok-parts.ensures.number, c.requires.workers.1))
    (omega (arith, c.in_ok-told.ensures, c.in_ok-parts.ensures.number)) c.in_ok-counts.ensures.few
