use Rattle.std.proofs.Common.{ℕ, List, ◌++◌, length, sym, ap, subst, ◌∙◌, arith}
use Rattle.std.specs.Prelude.{OnOk}
use Rattle.std.proofs.lemmas.List.{append-nil}
use Rattle.stream_core.specs.Pending.{Expects}
use Rattle.stream_core.proofs.Pending.{expects_same}
use Rattle.stream_core.proofs.Sending.{sends_none}
use Rattle.standby_core.proofs.PartTexts.{part_passed_over, part_asked_for}
use Rattle.standby_core.proofs.shipping.ship_record.Goals as goal

-- it is passed over
pub returns-then-number-from-clause-pending : goal.returns-then-number-from-clause-pending
returns-then-number-from-clause-pending g c = λ begin text expects.
    expects_same text _ (sym (append-nil text) ∙ ap (λ (p : List ℕ). text ++ p) (sym (part_passed_over c.args.from c.args.number c.args.x.now c.if-number-from.true))) expects

pub returns-then-number-from-clause-moments : goal.returns-then-number-from-clause-moments
returns-then-number-from-clause-moments g c = λ begin text expects. sends_none (g.H.Host.outside c.args.host.now) (g.met.H.Host.sent_now c.args.host.now) _ text expects

-- its Part is appended
pub append_bytes-requires : goal.append_bytes-requires
append_bytes-requires g c = omega (arith, c.put_part-len.ensures.bound, c.put_part-len.ensures.frame.whole, ap length c.put_part-len.ensures.frame.prefix)

pub returns-clause-pending : goal.returns-clause-pending
returns-clause-pending g c = λ begin text expects.
    let piece = c.put_part-len.ensures.frame.prefix ∙ sym (part_asked_for c.args.from c.args.number c.args.x.now c.if-number-from.false) in
    subst (λ (p : List ℕ). OnOk c.append_bytes.result (Expects begin (g.H.Host.outside c.append_bytes.new.host).sent c.append_bytes.new.self (text ++ p))) piece (c.append_bytes.ensures.pending begin text expects)
