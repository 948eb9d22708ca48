use Rattle.std.proofs.Common.{◌≡◌, ◌+◌, true, false, refl, length, take, sym, ◌∙◌, arith}
use Rattle.std.proofs.lemmas.List.{append-nil}
use Rattle.wire_in.specs.Cutting.{is_frame}
use Rattle.engine_core.proofs.Rounds.{whole_on}
use Rattle.standby_core.specs.Rounds.{part_in}
use Rattle.standby_core.proofs.OneFrame.{judges_on, judges_same, one_more}
use Rattle.standby_core.proofs.Settling.{sound_judged}
use Rattle.standby_core.proofs.standing.Standby.advance.Goals as goal

-- the frame lies whole in the piece

pub returns-in-Some-clause-gathers : goal.returns-in-Some-clause-gathers
returns-in-Some-clause-gathers c = λ given answered read gathers.
    let between = c.in-Some.ensures.between refl in
    let on = whole_on read (take (length c.in-Some.body.now + 1) c.args.piece.now) c.in-Some.body.now (sym gathers.cutter ∙ between) c.in-Some.ensures.prefix in
    record {
      cutter = between ∙ sym on.1;
      judges = judges_on gathers.judges c.in-Some.body.now on.0 _ c.next_place-place.result c.next_place-place.ensures c.judge.ensures.replies c.judge.ensures.records c.judge.ensures.stands c.judge.ensures.count c.judge.ensures.capacity;
    }

pub returns-in-Some-clause-more : goal.returns-in-Some-clause-more
returns-in-Some-clause-more c = one_more _ _ _ c.judge.ensures.replies

pub returns-in-Some-clause-sound : goal.returns-in-Some-clause-sound
returns-in-Some-clause-sound c = λ known sound. sound_judged (part_in c.in-Some.body.now) sound refl c.judge.ensures.records c.judge.ensures.count c.judge.ensures.capacity

-- no frame is whole yet, or the last bytes of one that was begun

pub returns-then-not-cut-clause-gathers : goal.returns-then-not-cut-clause-gathers
returns-then-not-cut-clause-gathers c = λ given answered read gathers.
    let on = c.take-cut.ensures.goes_on read gathers.cutter in
    let part : is_frame c.take-cut.new.self ≡ false = grind (arith, c.take-cut.ensures.whole, c.if-not-cut.true) in
    record { cutter = on.rest; judges = judges_same gathers.judges (rw part at on.bodies ∙ append-nil _) }

pub returns-clause-gathers : goal.returns-clause-gathers
returns-clause-gathers c = λ given answered read gathers.
    let on = c.take-cut.ensures.goes_on read gathers.cutter in
    let whole : is_frame c.take-cut.new.self ≡ true = grind (arith, c.take-cut.ensures.whole, c.if-not-cut.false) in
    record {
      cutter = on.rest;
      judges = judges_on gathers.judges c.body.result.now (rw (whole, ← c.body.ensures.frame) at on.bodies) _ c.next_place-place.result c.next_place-place.ensures c.judge-2.ensures.replies c.judge-2.ensures.records c.judge-2.ensures.stands c.judge-2.ensures.count c.judge-2.ensures.capacity;
    }

pub returns-clause-more : goal.returns-clause-more
returns-clause-more c = one_more _ _ _ c.judge-2.ensures.replies

pub returns-clause-sound : goal.returns-clause-sound
returns-clause-sound c = λ known sound. sound_judged (part_in c.body.result.now) sound refl c.judge-2.ensures.records c.judge-2.ensures.count c.judge-2.ensures.capacity
