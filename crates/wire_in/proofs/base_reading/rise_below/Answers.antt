use Rattle.std.proofs.Common.{◌∙◌, ◌+◌, ◌<◌, ◌≤◌, ◌⊎◌, true, false, get_or, drop, refl, ap, sym, arith, inl, inr}
use Rattle.std.proofs.lemmas.List.{drop_all}
use Rattle.wire_in.proofs.BaseParts.{rises_decides, rises_from, rises_no, rises_on, rises_step}
use Rattle.wire_in.proofs.base_reading.rise_below.Goals as goal
use Rattle.wire_in.proofs.base_reading.rise_below.Goals.{then-id-least-via-then-id-least, then-id-least-via-else-id-least+then-count-id}

pub loop-id-init : goal.loop-id-init
loop-id-init c = refl

pub loop-id-preserved : goal.loop-id-preserved
loop-id-preserved c =
    let i = c.loop-id.id-index in
    let ids = c.args.ids.now in
    let id = get_or ids i 0 in
    let rest = rises_from (id + 1) c.args.count (drop (i + 1) ids) in
    sym (rises_on c.loop-id.least c.args.count id rest c.if-id-least.false c.if-count-id.false)
    ∙ sym (rises_step c.loop-id.least c.args.count ids i c.loop-id-test.true)
    ∙ c.loop-id.invariant

pub returns-then-id-least : goal.returns-then-id-least
returns-then-id-least c =
    let i = c.loop-id.id-index in
    let ids = c.args.ids.now in
    let id = get_or ids i 0 in
    let rest = rises_from (id + 1) c.args.count (drop (i + 1) ids) in
    let outside : (id < c.loop-id.least) ⊎ (c.args.count ≤ id) =
    elim c.then-id-least.branch [
      | then-id-least-via-then-id-least w ↦ inl w.if-id-least.true
      | then-id-least-via-else-id-least+then-count-id w ↦ inr w.if-count-id.true
    ] in
    rises_decides false c.args.count ids
    (sym (rises_no c.loop-id.least c.args.count id rest outside) ∙ sym (rises_step c.loop-id.least c.args.count ids i c.loop-id-test.true) ∙ c.loop-id.invariant)

pub returns : goal.returns
returns c =
    let ids = c.args.ids.now in
    let all = drop_all c.loop-id.id-index ids (omega (arith, c.loop-id-test.false)) in
    rises_decides true c.args.count ids (sym (ap (rises_from c.loop-id.least c.args.count) all) ∙ c.loop-id.invariant)
