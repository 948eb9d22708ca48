use Rattle.yard_core.proofs.EachPieceOnce.{at_most_one, apart, all_claimed}
use Rattle.yard_core.proofs.law.each_piece_once.Goals as goal

pub returns-clause-once : goal.returns-clause-once
returns-clause-once g c asked origins s = at_most_one g.J.Job.place_of g.J.Job.origin_of g.J.Job.has_result asked origins s

pub returns-clause-apart : goal.returns-clause-apart
returns-clause-apart g c asked origins s = apart g.J.Job.place_of g.J.Job.origin_of g.J.Job.has_result asked origins s

pub returns-clause-all : goal.returns-clause-all
returns-clause-all g c asked origins s = all_claimed g.J.Job.place_of g.J.Job.origin_of g.J.Job.has_result asked origins s
