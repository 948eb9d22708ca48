use Rattle.std.proofs.Common.{◌≡◌, sym, refl, [], ◌∙◌, arith}
use Rattle.std.proofs.lemmas.Bool.Decides.{nat_tests}
use Rattle.std.proofs.lemmas.List.{nil_from_length}
use Rattle.stream_core.proofs.Pending.{on_ok2}
use Rattle.rehearse_core.proofs.Rehearsing.{block_ahead, one_accepted}
use Rattle.rehearse_core.proofs.rehearsal.Rehearsal.accept.Goals as goal

pub returns-then-len-self-clause-rehearses : goal.returns-then-len-self-clause-rehearses
returns-then-len-self-clause-rehearses g c = λ all left was passed. rw c.put.ensures.items (one_accepted was _ passed c.admit.ensures.represents c.admit.ensures.rest)

pub returns-clause-rehearses : goal.returns-clause-rehearses
returns-clause-rehearses g c = λ all left was passed.
    let settled = c.settle.ensures.rehearses all left (rw c.put.ensures.items (one_accepted was _ passed c.admit.ensures.represents c.admit.ensures.rest)) in
    on_ok2 c.settle.result c.settle.ensures.empty settled (λ empty done. rw empty done)

pub returns-then-is_alone-clause-rehearses : goal.returns-then-is_alone-clause-rehearses
returns-then-is_alone-clause-rehearses g c = λ all left was passed.
    let items = c.args.self.now.block.items in
    let empty : items ≡ [] = nil_from_length items (sym c.args.self.now.block.ok.0 ∙ grind (arith, nat_tests, c.is_empty.ensures, c.if-is_empty.true)) in
    let waits = one_accepted was c.admit.new.self passed c.admit.ensures.represents c.admit.ensures.rest in
    let alone = block_ahead waits c.admit.new.self waits.represents (c.is_alone.ensures.ahead c.if-is_alone.true _) refl in
    rw empty (c.evaluate.ensures.rehearses all left [] (rw empty at alone))
