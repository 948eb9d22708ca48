use Rattle.std.proofs.Common.{◌≡◌, true, arith}
use Rattle.wire_in.specs.Cutting.{bodies_of, is_frame}
use Rattle.engine_core.proofs.session.Session.go_on.Goals as goal

pub returns-clause-judges : goal.returns-clause-judges
returns-clause-judges c start answered read sent judges =
    let on = c.take-cut.ensures.goes_on read judges.cutter in
    let whole : is_frame c.take-cut.new.self ≡ true = grind (arith, c.take-cut.ensures.whole, c.if-not-cut.false) in
    record { cutter = on.rest; answers = c.judge.ensures.answers start answered (bodies_of read) _ _ _ sent (rw (whole, ← c.body.ensures.frame) at on.bodies) judges.answers }
