use Rattle.std.proofs.Common.{sym, ◌∙◌}
use Rattle.case_table.proofs.Only.{some-find, answer-find}
use Rattle.case_table.proofs.table.Cases.pick.Goals as goal

pub unreachable-requires : goal.unreachable-requires
unreachable-requires g c =
    some-find _ _ _ c.args.self.now.one_row_each c.requires (sym c.first_match.ensures ∙ c.in-None.is)

pub returns : goal.returns
returns g c =
    answer-find _ _ _ _ c.args.self.now.one_row_each c.requires (sym c.first_match.ensures ∙ c.in-Some.is)
