-- What is admissible finds room for one record more.
use Rattle.std.proofs.Common.{◌≡◌, ◌+◌, ◌≤◌, None, arith, rules}
use Rattle.std.proofs.lemmas.Bool.Decides.{nat_tests}
use Rattle.wire_in.specs.declared.record.Record.{Record}
use Rattle.market_core.specs.AdmissionState.{AdmissionState, refusal_of}

pub has_room : (a : AdmissionState) (x : Record) → refusal_of a x ≡ None → a.count + 1 ≤ a.capacity
has_room a x none = grind (arith, nat_tests)
