use Rattle.std.proofs.Common.{◌∙◌, List, ℕ, Result, Ok, Err, arith}
use Rattle.std.specs.Prelude.{IfOk, OnOk}
use Rattle.wire_in.specs.Reading.{placed}
use Rattle.wire_in.specs.Spelling.{Spells}
use Rattle.wire_in.specs.declared.record.Record.{Record}
use Rattle.wire_in.specs.declared.record.Refusal.{Refusal}
use Rattle.wire_in.proofs.DecodesOnly.{is_found}
use Rattle.wire_in.proofs.RoundTrip.{record_again}
use Rattle.wire_in.proofs.decoding.decode_into.Goals as goal

is_placed : (body : List ℕ) (x : Record) (result : Result (Unit {0}) Refusal) → IfOk (placed x result) (Spells body) → OnOk result (Spells body x)
is_placed body x (Ok _) spells = spells
is_placed body x (Err _) spells = spells

pub returns-clause-found : goal.returns-clause-found
returns-clause-found c =
    let body = c.args.body.now in
    is_placed body c.record.new.into c.record.result (is_found body (placed c.record.new.into c.record.result) (λ i. omega (arith, c.type_inv.body i)) c.record.ensures)

pub returns-clause-only : goal.returns-clause-only
returns-clause-only c = λ x s. c.record.ensures ∙ record_again c.args.body.now x s
