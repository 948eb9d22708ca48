use Rattle.std.proofs.Common.{length, ap, arith}
use Rattle.standby_core.proofs.Spelling.{part_again, body_short, put_framed}
use Rattle.standby_core.proofs.encoding.put_part.Goals as goal

pub put_head-at-requires : goal.put_head-at-requires
put_head-at-requires c = omega (arith, c.encode-len.ensures.frame.whole, body_short c.args.x.now c.requires.range)

pub put-requires : goal.put-requires
put-requires c =
    let frame = c.encode-len.ensures.frame in
    omega (arith, c.put_head-at.ensures.behind, ap length frame.prefix, body_short c.args.x.now c.requires.range)

pub returns-clause-frame : goal.returns-clause-frame
returns-clause-frame c =
    let frame = c.encode-len.ensures.frame in
    put_framed c.args.number c.args.x.now c.encode-len.result c.put_head-at.result c.put.result _ c.args.into.now c.put_head-at.new.into c.put.new.into frame.whole frame.prefix c.put_head-at.ensures c.put.ensures

pub returns-clause-bound : goal.returns-clause-bound
returns-clause-bound c =
    let frame = c.encode-len.ensures.frame in
    omega (arith, c.put_head-at.ensures.behind, c.put.ensures.behind, ap length frame.prefix, body_short c.args.x.now c.requires.range)

pub returns-clause-read : goal.returns-clause-read
returns-clause-read c = part_again c.args.number c.args.x.now c.requires.some (omega (arith, c.ranges.number)) c.encode-len.ensures.decodes
