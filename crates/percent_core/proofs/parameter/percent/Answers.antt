use Rattle.std.proofs.Common.{ap, sym, ◌∙◌}
use Rattle.case_table.specs.Rows.{answer_of}
use Rattle.percent_core.specs.declared.parameter.TheConstants.{ROWS}
use Rattle.percent_core.proofs.Table.{percent-answer, percent-most, least_percent-answer}
use Rattle.percent_core.proofs.parameter.percent.Goals as goal

pub returns-clause-value : goal.returns-clause-value
returns-clause-value c = percent-answer _ _ _ _ _ (ap (λ key. answer_of key ROWS) (sym c.key.ensures.value) ∙ c.pick.ensures)

pub returns-clause-least : goal.returns-clause-least
returns-clause-least c =
    least_percent-answer c.args.tier c.args.category c.args.span c.args.profile _ (ap (λ key. answer_of key ROWS) (sym c.key.ensures.value) ∙ c.pick.ensures)

pub returns-clause-most : goal.returns-clause-most
returns-clause-most c =
    percent-most c.args.tier c.args.category c.args.span c.args.profile _ (ap (λ key. answer_of key ROWS) (sym c.key.ensures.value) ∙ c.pick.ensures)
