use Rattle.std.proofs.Common.{◌≡◌, length, ap, arith}
use Rattle.std.proofs.lemmas.List.{with_items_is}
use Rattle.shard_core.proofs.Opening.{as_many}
use Rattle.shard_core.proofs.shards.Shards.unite.Goals as goal

pub invariant_of-self-2 : goal.invariant_of-self-2
invariant_of-self-2 c =
    let parts = c.self.inside.parts in
    let news = c.gather.new.parts in
    let many : length news ≡ parts.len = omega (arith, c.gather.ensures.parts, ap length c.deref_mut.ensures.value, parts.ok.0) in
    as_many (length c.self.inside.told.items) parts.items news _ (with_items_is parts news many) (omega (arith, many, parts.ok.0)) c.self.invariant.0 c.self.invariant.1 c.self.invariant.2 c.gather.ensures.few

pub invariant_of-self-in_err-gather : goal.invariant_of-self-in_err-gather
invariant_of-self-in_err-gather c =
    let parts = c.self.inside.parts in
    let news = c.gather.new.parts in
    let many : length news ≡ parts.len = omega (arith, c.gather.ensures.parts, ap length c.deref_mut.ensures.value, parts.ok.0) in
    as_many (length c.self.inside.told.items) parts.items news _ (with_items_is parts news many) (omega (arith, many, parts.ok.0)) c.self.invariant.0 c.self.invariant.1 c.self.invariant.2 c.gather.ensures.few
