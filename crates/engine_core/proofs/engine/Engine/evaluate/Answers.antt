use Rattle.std.proofs.Common.{◌∷◌, ◌++◌, length, ap, ◌∙◌, length-append, arith}
use Rattle.rulebook.specs.Book.{newest_messages, history}
use Rattle.rulebook.proofs.Histories.{messages-step}
use Rattle.engine_core.proofs.engine.Engine.evaluate.Goals as goal

pub returns-clause-represents : goal.returns-clause-represents
returns-clause-represents c = λ capacity accepted evaluated later s ahead passed.
    let gave = c.in_ok-apply.ensures.given capacity evaluated later s.stands.evaluator ahead passed ∙ ap (λ before. before ++ newest_messages (c.args.x.now ∷ evaluated)) c.clear.ensures.items in
    let evaluator = c.in_ok-apply.ensures.stands capacity evaluated later s.stands.evaluator ahead passed in
    record {
      stands = assumption;
      count = s.count;
      evaluated_is = omega (arith, s.evaluated_is);
      published = omega (arith, simp length-append at (ap length (messages-step c.args.x.now (history evaluated))), s.published, ap length gave, c.len.ensures, c.apply.new.out.ok.0);
    }

pub returns-clause-messages : goal.returns-clause-messages
returns-clause-messages c = λ capacity limit accepted evaluated later s ahead passed.
    c.in_ok-apply.ensures.given limit evaluated later s.evaluator ahead passed ∙ ap (λ before. before ++ newest_messages (c.args.x.now ∷ evaluated)) c.clear.ensures.items

pub returns-clause-stands : goal.returns-clause-stands
returns-clause-stands c = λ capacity limit accepted evaluated later s ahead passed.
    let evaluator = c.in_ok-apply.ensures.stands limit evaluated later s.evaluator ahead passed in
    assumption
