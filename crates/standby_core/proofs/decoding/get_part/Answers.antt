use Rattle.std.proofs.Common.{◌∙◌, sym, ap, Ok, arith}
use Rattle.standby_core.proofs.Spelling.{part_found, part_spelled, some_is}
use Rattle.standby_core.proofs.decoding.get_part.Goals as goal

pub returns-in-Some-clause-found : goal.returns-in-Some-clause-found
returns-in-Some-clause-found c = part_found c.args.body.now c.in-Some.number c.in-Some.x (λ i. omega (arith, c.type_inv.body i)) (sym c.part.ensures ∙ c.in-Some.is)

pub returns-in-Some-clause-only : goal.returns-in-Some-clause-only
returns-in-Some-clause-only c = λ number x spells. ap Ok (some_is _ _ (sym c.in-Some.is ∙ c.part.ensures ∙ part_spelled c.args.body.now number x spells))

pub returns-in-None-clause-only : goal.returns-in-None-clause-only
returns-in-None-clause-only c = λ number x spells. let e = part_spelled c.args.body.now number x spells in absurd cc
