use Rattle.gateway.specs.Readers.{IsUntold}
use Rattle.gateway.proofs.reader.Reader.watch.Given as goal

abbrev pub invariant-loop : goal.invariant-loop
invariant-loop l = IsUntold l.board l.self
