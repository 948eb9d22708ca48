use Rattle.std.proofs.Common.{Bool, subst, arith}
use Rattle.std.specs.Prelude.{IfOk}
use Rattle.symbol_core.specs.Fresh.{IsFresh}
use Rattle.market_core.proofs.Restoring.{fresh-push}
use Rattle.market_core.proofs.section.Section.restore.Goals as goal

pub loop-id-preserved : goal.loop-id-preserved
loop-id-preserved c =
    let id = c.loop-id.id in
    let symbol = c.unwrap-symbol.result in
    let fresh = subst (λ r. IfOk r (IsFresh id c.is_among.result)) c.unwrap-symbol.ensures c.restore.ensures.fresh in
    record {
      fresh = fresh-push c.args.carried.now id symbol c.loop-id.section.symbols c.push.new.self.symbols c.push.ensures.symbols (subst (λ (b : Bool). IsFresh id b symbol) c.is_among.ensures fresh) c.loop-id.invariant.fresh;
      room = omega (arith, c.push.ensures.spare, c.loop-id.invariant.room);
    }
