use Rattle.std.proofs.Common.{◌≡◌}
use Rattle.std.specs.Prelude.{filter}
use Rattle.rulebook.specs.Book.{ids_below}
use Rattle.market_core.specs.Fresh.{is_marked}
use Rattle.market_core.proofs.section.Section.carried.Given as goal

abbrev pub invariant-loop-id : goal.invariant-loop-id
invariant-loop-id l = l.ids ≡ filter (is_marked l.self.symbols) (ids_below l.id)
