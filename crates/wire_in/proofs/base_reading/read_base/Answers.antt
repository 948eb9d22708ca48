use Rattle.std.proofs.Common.{◌∙◌, ◌+◌, ◌*◌, ℕ, None, take, drop, refl, sym, ap, subst, arith}
use Rattle.std.proofs.lemmas.List.{take_rest}
use Rattle.wire_core.proofs.Cells.{IsBytes}
use Rattle.wire_in.specs.Bases.{HasForm}
use Rattle.wire_in.proofs.BaseForms.{form_made, no_names}
use Rattle.wire_in.proofs.base_reading.read_base.Goals as goal

pub returns-in_default-clause-bad : goal.returns-in_default-clause-bad
returns-in_default-clause-bad c = λ _. no_names c.args.body.now None refl (c.in_default.ensures).only

pub returns-clause-found : goal.returns-clause-found
returns-clause-found c =
    let body = c.args.body.now in
    let n = c.in-Some.count in
    let fits : IsBytes body = λ k. omega (arith, c.type_inv.body k) in
    let names = c.in_ok-names_of.ensures in
    let ids = c.in_ok-ids_of.ensures in
    subst (HasForm body) (λ i. record {
      records = sym c.u64_at.ensures i;
      messages = sym c.u64_at-2.ensures i;
      day = c.in-Some-day_at.day;
      names = c.in_ok-names_of.field-0;
      carried = c.in_ok-ids_of.field-0;
    })
    (form_made body n c.in-Some-day_at.day c.in_ok-names_of.field-0 c.in_ok-ids_of.field-0 fits (c.in-Some.ensures).found (c.in-Some-day_at.ensures).found
    (names.bytes ∙ ap (λ (k : ℕ). take k (drop 38 body)) (omega arith)) names.sizes names.count (ids.bytes ∙ take_rest body (38 + 8 * n + 2)) ids.range)
