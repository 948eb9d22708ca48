use Rattle.std.proofs.Common.{◌≡◌, Bool, List, ℕ, rules}
use Rattle.symbol_core.proofs.Resting.{rests-fresh}
use Rattle.symbol_core.proofs.symbol.Symbol.restore.Goals as goal

pub returns-clause-rests : goal.returns-clause-rests
returns-clause-rests c = λ own day h begins e. rests-fresh own c.args.id c.args.carried _ day h (record { kept = c.renewed.ensures; deals = c.in_ok-new.ensures.empty }) begins e
