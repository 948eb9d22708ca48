use Rattle.std.proofs.Common.{◌∙◌, sym, arith}
use Rattle.wire_out.proofs.DecodesOnly.{message_found}
use Rattle.wire_out.proofs.decoding.numbered.Goals as goal

pub count_at-requires : goal.count_at-requires
count_at-requires c =
    let m = message_found c.args.body.now c.in_ok-message.message (λ i. omega (arith, c.type_inv.body i)) (sym c.message.ensures ∙ c.in_ok-message.was) in
    omega (arith, m.room)

pub moment_at-requires : goal.moment_at-requires
moment_at-requires c =
    let m = message_found c.args.body.now c.in_ok-message.message (λ i. omega (arith, c.type_inv.body i)) (sym c.message.ensures ∙ c.in_ok-message.was) in
    omega (arith, m.room)
