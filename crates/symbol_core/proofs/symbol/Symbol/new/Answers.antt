use Rattle.std.proofs.Common.{[], false}
use Rattle.symbol_core.specs.Taken.{renewed}
use Rattle.symbol_core.proofs.Resting.{rests-new, rests-with}
use Rattle.symbol_core.proofs.symbol.Symbol.new.Goals as goal

pub returns-clause-rests : goal.returns-clause-rests
returns-clause-rests c = λ mine h q. rw (c.renewed.ensures, c.in_ok-new.ensures.empty) (rests-with mine (record { kept = renewed c.args.id false; deals = []; spare = 0 }) c.in_ok-new.field-0.spare h (rests-new mine c.args.id h q))
