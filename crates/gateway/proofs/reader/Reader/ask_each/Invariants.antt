use Rattle.std.proofs.Common.{◌≡◌}
use Rattle.gateway.specs.Readers.{IsUntold}
use Rattle.gateway.proofs.reader.Reader.ask_each.Given as goal

abbrev pub invariant-loop-symbol : goal.invariant-loop-symbol
invariant-loop-symbol l = record { reader : IsUntold l.board l.self; stocks : l.self.stocks ≡ l.initial.self.stocks }
