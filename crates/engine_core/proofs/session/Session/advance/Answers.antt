use Rattle.std.proofs.Common.{◌+◌, length, take, sym, ◌∙◌}
use Rattle.wire_in.specs.Cutting.{bodies_of}
use Rattle.engine_core.proofs.Rounds.{whole_on}
use Rattle.engine_core.proofs.session.Session.advance.Goals as goal

pub returns-in-Some-clause-judges : goal.returns-in-Some-clause-judges
returns-in-Some-clause-judges c start answered read sent judges =
    let on = whole_on read (take (length c.in-Some.body.now + 1) c.args.piece.now) c.in-Some.body.now (sym judges.cutter ∙ c.requires.between) c.in-Some.ensures.prefix in
    record {
      cutter = c.requires.between ∙ sym on.1;
      answers = c.judge.ensures.answers start answered (bodies_of read) _ _ _ sent on.0 judges.answers;
    }
