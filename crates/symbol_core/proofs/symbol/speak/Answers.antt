use Rattle.std.proofs.Common.{sym, ◌∙◌}
use Rattle.symbol_core.proofs.Quiet.{speaks-quiet}
use Rattle.symbol_core.specs.InStep.{in_step}
use Rattle.symbol_core.proofs.Banding.{bands-waited}
use Rattle.symbol_core.proofs.symbol.speak.Goals as goal

pub returns-then-is_quiet-clause-speaks : goal.returns-then-is_quiet-clause-speaks
returns-then-is_quiet-clause-speaks c =
    speaks-quiet (in_step c.args.k.now c.args.opened.now) c.args.deals.now.deals c.args.step.now c.args.out.now c.args.waits (sym c.is_some.ensures ∙ c.if-is_some.true) c.requires.waits
    (c.is_quiet.ensures.settled c.if-is_quiet.true) (c.is_quiet.ensures.prices c.if-is_quiet.true) (c.is_quiet.ensures.restricts c.if-is_quiet.true)

pub returns-clause-speaks : goal.returns-clause-speaks
returns-clause-speaks c =
    record {
      said = in_step c.announce.new.self c.args.opened.now;
      between = c.announce.new.out;
      announces = c.announce.ensures.says c.args.opened.now;
      obeys = c.obey.ensures.obeys;
    }

pub returns-then-is_quiet-clause-bands : goal.returns-then-is_quiet-clause-bands
returns-then-is_quiet-clause-bands c = bands-waited c.args.k.now c.args.step.now c.args.waits (sym c.is_some.ensures ∙ c.if-is_some.true) c.requires.waits
