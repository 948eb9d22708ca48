use Rattle.std.proofs.Common.{length, ap, arith}
use Rattle.wire_in.proofs.BaseForms.{day-length}
use Rattle.wire_in.proofs.BaseWriting.{day_in_range, sound_from_frame}
use Rattle.wire_in.proofs.base_writing.write_day.Goals as goal

pub encode-len-requires : goal.encode-len-requires
encode-len-requires c = day_in_range c.args.x.now c.requires.begins

pub write-requires : goal.write-requires
write-requires c = omega (arith, c.requires.room, day-length c.args.x.now c.requires.begins, ap length c.encode-len.ensures.frame.prefix)

pub returns-clause-len : goal.returns-clause-len
returns-clause-len c = omega (arith, c.write.ensures.len, day-length c.args.x.now c.requires.begins, ap length c.encode-len.ensures.frame.prefix)

pub returns-clause-sound : goal.returns-clause-sound
returns-clause-sound c = sound_from_frame c.args.x.now _ c.write.ensures.range c.encode-len.ensures.frame.prefix c.encode-len.ensures.decodes
