use Rattle.std.proofs.Common.{◌∙◌, sym, arith}
use Rattle.standby_core.proofs.Spelling.{have_found, have_spelled}
use Rattle.standby_core.proofs.decoding.get_have.Goals as goal

pub returns-in-Some-clause-found : goal.returns-in-Some-clause-found
returns-in-Some-clause-found c = have_found c.args.body.now c.in-Some.count (λ i. omega (arith, c.type_inv.body i)) (sym c.have.ensures ∙ c.in-Some.is)

pub returns-in-Some-clause-only : goal.returns-in-Some-clause-only
returns-in-Some-clause-only c = λ count spells. let e = have_spelled c.args.body.now count spells in cc

pub returns-in-None-clause-only : goal.returns-in-None-clause-only
returns-in-None-clause-only c = λ count spells. let e = have_spelled c.args.body.now count spells in absurd cc
