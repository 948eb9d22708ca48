use Rattle.std.proofs.Common.{◌≡◌, [], List, length, get_or, Ok, Err, refl, ap, ◌∙◌, length-append, arith}
use Rattle.std.proofs.Math.ListN.{set}
use Rattle.std.proofs.lemmas.List.{get_or_at}
use Rattle.wire_in.specs.declared.record.Record.{Record}
use Rattle.engine_core.specs.Rounds.{Outcome, records_in}
use Rattle.engine_core.proofs.Rounds.{Adds, in_place, adds_accepted, adds_refused, one_more, outcomes_on, records-append, has_room}
use Rattle.engine_core.proofs.Answering.{judged_one}
use Rattle.engine_core.proofs.round.Round.judge.Goals as goal

pub push_copy-requires : goal.push_copy-requires
push_copy-requires c =
    record { room = grind (arith, c.self.view_is, c.self.invariant.count, c.requires.room, c.self.invariant.reserve_records, c.self.inside.accepted.ok.0) }

pub refuse-requires : goal.refuse-requires
refuse-requires c =
    record { room = grind (arith, c.self.view_is, c.self.invariant.count, c.requires.room, c.self.invariant.reserve, c.self.inside.refused.ok.0) }

-- the record that was read stands behind the accepted ones
accepts : (c : goal.After-admit) → Adds c.self.inside.refused.items c.self.inside.refused.items c.self.inside.accepted.items (set c.push_copy.new.list.items c.len-place.result c.judge_in.new.place) (Ok c.judge_in.new.place)
accepts c = adds_accepted c.self.invariant.rise (in_place c.self.inside.accepted _ c.judge_in.new.place c.push_copy.ensures.items c.len-place.ensures)

refuses : (c : goal.After-refuse) → Adds c.self.inside.refused.items c.refuse.new.refused.items c.self.inside.accepted.items c.refuse.new.records.items (Err c.in-Some.refusal)
refuses c =
    let stands = in_place c.self.inside.accepted _ c.judge_in.new.place c.push_copy.ensures.items c.len-place.ensures in
    adds_refused c.self.invariant.rise (c.refuse.ensures.records _ _ stands) (c.refuse.ensures.refused _ _ stands)

pub invariant_of-self : goal.invariant_of-self
invariant_of-self c = (one_more c.self.view_is c.self.invariant c.requires.room (rw c.in-None.is at c.judge_in.ensures.range) (accepts c) refl c.push_copy.ensures.capacity).1

pub invariant_of-self-in-Some : goal.invariant_of-self-in-Some
invariant_of-self-in-Some c =
    (one_more c.self.view_is c.self.invariant c.requires.room (rw c.in-Some.is at c.judge_in.ensures.range) (refuses c) c.refuse.ensures.capacity (c.refuse.ensures.room ∙ c.push_copy.ensures.capacity)).1

-- the record that is admitted
read : (c : goal.After-admit) → c.index.result.now ≡ c.judge_in.new.place
read c =
    c.index.ensures ∙ ap (λ (records : List Record). get_or records c.len-place.result c.index.result.now) (accepts c).accepted_are
    ∙ get_or_at c.self.inside.accepted.items c.judge_in.new.place [] _ c.len-place.result (grind (arith, c.len-place.ensures, c.self.inside.accepted.ok.0))

pub returns-in-None-clause-answers : goal.returns-in-None-clause-answers
returns-in-None-clause-answers c = λ start answered all after number outbox sent whole answers.
    rw (outcomes_on c.self.view_is (accepts c))
    (judged_one c.args.body.now (Ok c.judge_in.new.place) whole (rw c.in-None.is at c.judge_in.ensures.exact) (rw (read c) at c.admit.ensures.represents) c.admit.ensures.rest answers)

pub returns-in-None-clause-more : goal.returns-in-None-clause-more
returns-in-None-clause-more c = ap length (outcomes_on c.self.view_is (accepts c)) ∙ length-append c.args.self.now.outcomes _

pub returns-in-None-clause-sound : goal.returns-in-None-clause-sound
returns-in-None-clause-sound c = λ answered sound.
    let records = simp (records-append, length-append) at (ap (λ (os : List Outcome). length (records_in os)) (outcomes_on c.self.view_is (accepts c))) in
    rw c.admit.ensures.rest (omega (arith, sound.count, sound.few, sound.small, sound.roomy, has_room c.args.engine.now.admission c.judge_in.new.place (c.judge_in.ensures.admissible c.in-None.is), c.admit.ensures.count, c.admit.ensures.capacity, records))

pub returns-in-Some-clause-answers : goal.returns-in-Some-clause-answers
returns-in-Some-clause-answers c = λ start answered all after number outbox sent whole answers.
    rw (outcomes_on c.self.view_is (refuses c))
    (judged_one c.args.body.now (Err c.in-Some.refusal) whole (rw c.in-Some.is at c.judge_in.ensures.exact) (λ capacity accepted evaluated represents. represents) refl answers)

pub returns-in-Some-clause-more : goal.returns-in-Some-clause-more
returns-in-Some-clause-more c = ap length (outcomes_on c.self.view_is (refuses c)) ∙ length-append c.args.self.now.outcomes _

pub returns-in-Some-clause-sound : goal.returns-in-Some-clause-sound
returns-in-Some-clause-sound c = λ answered sound.
    let records = simp (records-append, length-append) at (ap (λ (os : List Outcome). length (records_in os)) (outcomes_on c.self.view_is (refuses c))) in
    omega (arith, sound.count, sound.few, sound.small, sound.roomy, sound.within, records)
