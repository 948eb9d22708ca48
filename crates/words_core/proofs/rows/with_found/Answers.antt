use Rattle.std.proofs.Common.{◌∙◌, Option, ap, sym}
use Rattle.std.specs.Prelude.{option_and_then}
use Rattle.clap.specs.Words.{Text, first_of, found_of, rows_of}
use Rattle.words_core.specs.Asked.{with_found}
use Rattle.words_core.specs.Plain.{with_any}
use Rattle.words_core.specs.Settings.{name_of, takes}
use Rattle.words_core.proofs.rows.with_found.Goals as goal

pub returns-clause-exact : goal.returns-clause-exact
unfolding with_found
returns-clause-exact c =
    let rows = rows_of (found_of c.args.found.now) in
    let value = takes c.args.verb c.args.setting in
    c.with_any.ensures.exact
    ∙ ap (λ (word : Option Text). with_any value c.args.setting word c.in_ok-given.given) (c.text_of.ensures ∙ ap (λ (id : Text). first_of id rows) c.name.ensures)
    ∙ ap (option_and_then (with_any value c.args.setting (first_of (name_of c.args.setting) rows))) (sym c.in_ok-given.was)
