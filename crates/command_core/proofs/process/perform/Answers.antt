use Rattle.std.proofs.Common.{◌≡◌, map, List, ℕ, ap, subst, ◌∙◌}
use Rattle.std.specs.Prelude.{[], None, get_or}
use Rattle.words_core.specs.Plain.{command_of}
use Rattle.command_core.specs.Runs.{Obeyed}
use Rattle.command_core.specs.Words.{asks_for_text}
use Rattle.command_core.proofs.Words.{texts_behind}
use Rattle.command_core.proofs.process.perform.Goals as goal

pub returns-clause-ran : goal.returns-clause-ran
returns-clause-ran g c = λ command is.
    c.run.ensures.ran command
    (ap command_of (ap (map (λ w. w.now)) c.words_behind.ensures ∙ texts_behind (asks_for_text (get_or (map (λ w. w.now) c.args.args.now) 1 [])) c.args.args.now) ∙ is)

pub returns-clause-others : goal.returns-clause-others
returns-clause-others g c =
    subst (λ (words : List (List ℕ)). command_of words ≡ None → Obeyed (c.run.new.host ≡ c.args.host.now) words c.run.result (g.H.Host.outside c.args.host.now) (g.H.Host.outside c.run.new.host))
    (ap (map (λ w. w.now)) c.words_behind.ensures ∙ texts_behind (asks_for_text (get_or (map (λ w. w.now) c.args.args.now) 1 [])) c.args.args.now) c.run.ensures.others
