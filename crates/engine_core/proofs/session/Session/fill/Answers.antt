use Rattle.std.proofs.Common.{◌++◌, take, take-add, append_assoc}
use Rattle.std.proofs.lemmas.List.{take_rest}
use Rattle.engine_core.proofs.session.Session.fill.Goals as goal

pub returns-clause-judges : goal.returns-clause-judges
returns-clause-judges c = λ start answered read sent judges.
    c.take_frames.ensures.judges start answered read sent (rw (take_rest c.args.piece.now c.args.from, append_assoc, ← take-add c.args.from c.finish-begun.result c.args.piece.now) at
    (c.finish-begun.ensures.judges start answered (read ++ take c.args.from c.args.piece.now) sent judges))

pub returns-clause-sound : goal.returns-clause-sound
returns-clause-sound c = λ sound. c.take_frames.ensures.sound (rw c.finish-begun.ensures.answered (c.finish-begun.ensures.sound _ sound))
