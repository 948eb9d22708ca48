use Rattle.std.proofs.Common.{rules}
use Rattle.engine_core.proofs.session.answer_round.Goals as goal

pub returns-in_err-answer_each-clause-replies : goal.returns-in_err-answer_each-clause-replies
returns-in_err-answer_each-clause-replies g c start before all same answers =
    let each = c.answer_each.ensures.replies start _ all same (c.prepare_round.ensures.answers start before all _ answers) in
    record { answers = search rules; moments = each.moments; starved = λ is. each.starved (search rules) }

pub returns-clause-replies : goal.returns-clause-replies
returns-clause-replies g c start before all same answers =
    let each = c.in_ok-answer_each.ensures.replies start _ all same (c.prepare_round.ensures.answers start before all _ answers) in
    record {
      answers = rw (c.clear.ensures, c.len.ensures.len) each.answers;
      moments = each.moments;
      starved = λ is. absurd cc;
    }
