use Rattle.std.proofs.Common.{length, ap, arith}
use Rattle.journal_core.proofs.FrameLemmas.{frame_most, sound_from_frame}
use Rattle.journal_core.proofs.frames.put_frame.Goals as goal

pub put-requires : goal.put-requires
put-requires c = omega (arith, frame_most c.args.x.now c.requires.range, ap length c.encode-len.ensures.frame.prefix)

pub returns-clause-short : goal.returns-clause-short
returns-clause-short c = frame_most c.args.x.now c.requires.range

pub returns-clause-sound : goal.returns-clause-sound
returns-clause-sound c = sound_from_frame c.args.x.now c.encode-len.new.into c.encode-len.result c.put.ensures.range c.encode-len.ensures.frame.prefix c.encode-len.ensures.decodes
