use Rattle.std.proofs.Common.{◌≡◌, drop}
use Rattle.std.specs.Prelude.{max}
use Rattle.gateway.specs.Listed.{stocks_listed}
use Rattle.gateway.proofs.reading.stocks_of.Given as goal

abbrev pub invariant-loop-message : goal.invariant-loop-message
invariant-loop-message l = max l.stocks (stocks_listed (drop l.message-index l.messages)) ≡ stocks_listed l.messages
