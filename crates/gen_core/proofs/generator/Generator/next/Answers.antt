use Rattle.std.proofs.Common.{sym, ◌∙◌}
use Rattle.gen_core.specs.Generated.{generated}
use Rattle.gen_core.proofs.Given.{none_left}
use Rattle.gen_core.proofs.Listed.{first_left}
use Rattle.gen_core.proofs.generator.Generator.next.Goals as goal

pub returns-then-self-clause-first : goal.returns-then-self-clause-first
returns-then-self-clause-first c =
    let none = sym c.self.view_is ∙ none_left c.self.inside.plan c.self.inside.given c.if-self.true in
    (none, none)

pub returns-clause-first : goal.returns-clause-first
returns-clause-first c =
    sym c.self.view_is ∙ first_left (generated c.self.inside.plan) c.self.inside.given c.next_record-record.result c.next_record-record.ensures.at
