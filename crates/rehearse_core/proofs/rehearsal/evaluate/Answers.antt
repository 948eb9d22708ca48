use Rattle.std.proofs.Common.{◌∷◌, ◌++◌, sym, ap, ◌∙◌, arith}
use Rattle.rulebook.specs.Book.{messages_of}
use Rattle.rulebook.proofs.Sending.{messages_of-more}
use Rattle.gen_core.specs.Tallies.{tally_of}
use Rattle.replay_core.specs.Replayed.{capacity}
use Rattle.rehearse_core.proofs.rehearsal.evaluate.Goals as goal

pub returns-clause-rehearses : goal.returns-clause-rehearses
returns-clause-rehearses c = λ all left later was.
    let gave = c.deref.ensures.value ∙ c.in_ok-evaluate.ensures.messages _ capacity _ _ later was.represents.stands was.ahead was.admissible.0 in
    record {
      evaluated = c.args.x.now ∷ was.evaluated;
      represents = c.in_ok-evaluate.ensures.represents _ _ _ later was.represents was.ahead was.admissible.0;
      admissible = was.admissible.1;
      ahead = c.in_ok-evaluate.ensures.ahead later was.ahead;
      counted = c.count.ensures.counts (messages_of was.evaluated) was.counted ∙ ap tally_of (ap (λ ms. messages_of was.evaluated ++ ms) gave ∙ sym (messages_of-more c.args.x.now was.evaluated));
      rest = was.rest;
      within = omega (arith, was.within, c.in_ok-evaluate.ensures.evaluated);
    }
