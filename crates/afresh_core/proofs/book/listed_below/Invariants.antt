use Rattle.std.proofs.Common.{◌≡◌}
use Rattle.std.specs.Prelude.{filter}
use Rattle.rulebook.specs.Admission.{is_listed}
use Rattle.rulebook.specs.Book.{ids_below}
use Rattle.afresh_core.proofs.book.listed_below.Given as goal

abbrev pub invariant-loop-id : goal.invariant-loop-id
invariant-loop-id l = l.listed.items ≡ filter (is_listed l.accepted) (ids_below l.id)
