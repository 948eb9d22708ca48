use Rattle.std.proofs.Common.{◌∙◌, rules, ℕ, List, Bor, ap, sym, map, drop}
use Rattle.std.specs.Prelude.{option_and_then}
use Rattle.words_core.specs.Plain.{options_of}
use Rattle.words_core.specs.declared.options.Options.{Options}
use Rattle.words_core.proofs.Reading.{summary_next, option_next}
use Rattle.words_core.proofs.plain.+options_of.Goals as goal

pub returns-in-Some-clause-exact : goal.returns-in-Some-clause-exact
returns-in-Some-clause-exact n c =
    c.options_of.ensures.exact
    ∙ ap (λ (words : List (Bor (List ℕ))). options_of c.args.verb c.in-Some.more (map (λ w. w.now) words)) c.behind.ensures
    ∙ sym (summary_next c.args.verb c.args.given c.args.words.now (search rules) (search rules)
    ∙ ap (option_and_then (λ (more : Options). options_of c.args.verb more (map (λ w. w.now) (drop 1 c.args.words.now)))) (sym c.with_summary.ensures.exact ∙ c.in-Some.is))

pub returns-in-Some-with_first-clause-exact : goal.returns-in-Some-with_first-clause-exact
returns-in-Some-with_first-clause-exact n c =
    c.options_of-in-Some-with_first.ensures.exact
    ∙ ap (λ (words : List (Bor (List ℕ))). options_of c.args.verb c.in-Some-with_first.more (map (λ w. w.now) words)) c.behind-in-Some-with_first.ensures
    ∙ sym (option_next c.args.verb c.args.given c.args.words.now (search rules) (search rules)
    ∙ ap (option_and_then (λ (more : Options). options_of c.args.verb more (map (λ w. w.now) (drop 2 c.args.words.now)))) (sym c.with_first.ensures.exact ∙ c.in-Some-with_first.is))
