use Rattle.std.proofs.Common.{sym, subst}
use Rattle.engine_core.specs.declared.engine.Engine.{Engine}
use Rattle.roll_core.specs.InternalRoll.{IsBaseFor, IsRoomFor}
use Rattle.roll_core.proofs.Adding.{adds_base, adds_starved, adds_unlawful}
use Rattle.roll_core.proofs.rolling.add_base_of.Goals as goal

-- it is added, or the disk failed
pub returns-in-Ok-Some : goal.returns-in-Ok-Some
returns-in-Ok-Some g c = λ recovery f some day.
    let made = subst (IsRoomFor c.args.engine.now c.args.day.now) c.in-Ok-Some.field-0-is (c.in-Ok-Some.ensures) in
    adds_base f.closed some day c.args.journal.now f.limit c.requires.unrolled f.rolled_is f.keeps c.add_base.result
    (subst (λ (e : Engine). IsBaseFor e c.args.day.now c.in-Ok-Some.room) (sym f.engine_is) made) c.add_base.ensures

-- no lawful list has it
pub returns-in-Ok-None : goal.returns-in-Ok-None
returns-in-Ok-None g c = λ recovery f some day.
    let there = subst (IsRoomFor c.args.engine.now c.args.day.now) c.in-Ok-None.field-0-is (c.in-Ok-None.ensures) in
    adds_unlawful f.closed (g.met.H.Host.sent_now c.args.host.now) some day c.args.at there.0
    (subst (λ (e : Engine). IsBaseFor e c.args.day.now there.0) (sym f.engine_is) there.1) there.2

-- there was no memory for it
pub returns-in-Err : goal.returns-in-Err
returns-in-Err g c = λ recovery f some day. adds_starved f.closed (g.met.H.Host.sent_now c.args.host.now) some day
