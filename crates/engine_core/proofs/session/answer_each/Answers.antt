use Rattle.std.proofs.Common.{◌≡◌, ℕ, ◌^◌, ◌+◌, ◌<◌, ◌≤◌, List, [], ◌++◌, length, map, Ok, get_or, drop, refl, ap, ◌∙◌, arith, rules}
use Rattle.std.specs.List.{between}
use Rattle.std.proofs.lemmas.List.{drop_more, drop_all}
use Rattle.std.proofs.lemmas.List.Edits.{length-between}
use Rattle.host_core.proofs.Chains.{onward, sends_nothing}
use Rattle.host_core.proofs.Causes.{no_fault, faultless}
use Rattle.wire_in.specs.declared.record.Record.{Record}
use Rattle.wire_in.specs.declared.record.Refusal.TheVariants.{UnknownType}
use Rattle.stream_core.proofs.Sending.{sends_none, sends_whole}
use Rattle.engine_core.specs.declared.refused.Refused.{Refused}
use Rattle.engine_core.specs.Rounds.{Rise, joined, records_in}
use Rattle.engine_core.specs.Sessions.{Start}
use Rattle.engine_core.specs.Answering.{Answers, Replies}
use Rattle.engine_core.proofs.Rounds.{left_is, rise_on, rise_end, last_run}
use Rattle.engine_core.proofs.Answering.{sends_all}
use Rattle.engine_core.proofs.session.answer_each.Given.{Over}
use Rattle.engine_core.proofs.session.answer_each.Goals.{After-answer_up_to, After-answer_run}
use Rattle.engine_core.proofs.session.answer_each.Goals as goal

-- the refused frame at an index
abbrev at : List Refused → ℕ → Refused
at refused i = get_or refused i (record { before = 0; refusal = UnknownType })

module _ (refused : List Refused) (i begin : ℕ) (records : List Record) (rise : Rise begin (drop i refused) (length records)) where
  -- how many accepted ones are left in front of it
  in_front : i < length refused → (length (between begin (at refused i).before records) + begin ≡ (at refused i).before) × ((at refused i).before ≤ length records)
  in_front lt =
      let on = rise_on begin records (drop_more refused i (record { before = 0; refusal = UnknownType }) lt) rise in
      (omega (arith, length-between records begin (at refused i).before on.1, on.0), on.1)

  -- and of all where none is left, which are then the frames that are left
  at_end : length refused ≤ i → (joined begin (drop i refused) records ≡ map Ok (between begin (length records) records) ++ []) × (length (between begin (length records) records) + begin ≡ length records)
  at_end le =
      (last_run begin records (drop_all i refused le), omega (arith, length-between records begin (length records) (omega arith), rise_end begin (drop i refused) (length records) rise))

pub loop-refused-init : goal.loop-refused-init
loop-refused-init g c =
    let records = c.deref-records.ensures.value ∙ c.accepted.ensures.accepted in
    let whole : joined 0 c.refused-refused-items.result.now c.deref-records.result.now ≡ c.args.round.now.outcomes = ap (joined 0 c.refused-refused-items.result.now) records ∙ c.refused-refused-items.ensures.whole in
    record {
      number = omega arith;
      rise = rw (ap length records) c.refused-refused-items.ensures.rise;
      replies = λ start before all same answers.
          rw whole
          (record {
            answers = (before, answers);
            moments = sends_all answers.waits (sends_none (g.H.Host.outside c.args.host.now) (g.met.H.Host.sent_now c.args.host.now) _ _ answers.pending_is);
            starved = λ is. absurd cc;
          });
      admission = refl;
      sound = rw whole c.requires.sound;
      keeps = sends_nothing _;
      none = no_fault _;
    }

pub offset_bounds-records-begin : goal.offset_bounds-records-begin
offset_bounds-records-begin g c =
    let front = in_front c.refused-refused-items.result.now c.loop-refused.refused-index c.loop-refused.begin c.deref-records.result.now c.loop-refused.invariant.rise c.loop-refused-test.true in
    omega (arith, front.0, front.1, c.deref-records.type_inv.1)

pub slice_bounds-run-end : goal.slice_bounds-run-end
slice_bounds-run-end g c =
    let front = in_front c.refused-refused-items.result.now c.loop-refused.refused-index c.loop-refused.begin c.deref-records.result.now c.loop-refused.invariant.rise c.loop-refused-test.true in
    omega (arith, front.0, front.1)

pub answer_up_to-requires : goal.answer_up_to-requires
answer_up_to-requires g c =
    let split = drop_more c.refused-refused-items.result.now c.loop-refused.refused-index (record { before = 0; refusal = UnknownType }) c.loop-refused-test.true in
    let front = in_front c.refused-refused-items.result.now c.loop-refused.refused-index c.loop-refused.begin c.deref-records.result.now c.loop-refused.invariant.rise c.loop-refused-test.true in
    let many = ap length (c.deref-records.ensures.value ∙ c.accepted.ensures.accepted) in
    record {
      sound = (_, rw (left_is c.loop-refused.begin c.deref-records.result.now split) at c.loop-refused.invariant.sound);
      answered = omega (arith, front, many, c.loop-refused.invariant.number, c.requires.answered, c.loop-refused-test.true, c.refused-refused-items.ensures.count, c.refused-refused-items.ensures.most);
    }

pub overflow_add-number-in-loop-refused : goal.overflow_add-number-in-loop-refused
overflow_add-number-in-loop-refused g c =
    let front = in_front c.refused-refused-items.result.now c.loop-refused.refused-index c.loop-refused.begin c.deref-records.result.now c.loop-refused.invariant.rise c.loop-refused-test.true in
    let many = ap length (c.deref-records.ensures.value ∙ c.accepted.ensures.accepted) in
    omega (arith, front, many, c.loop-refused.invariant.number, c.requires.answered, c.loop-refused-test.true, c.refused-refused-items.ensures.count, c.refused-refused-items.ensures.most)

-- the frames up to a refused one were answered, or ended the run
replied : (g : Over) (c : After-answer_up_to g) (start : Start) (before all : List (List ℕ)) → c.args.acknowledges ≡ start.acknowledges
    → Answers start before all c.args.answered c.args.round.now.outcomes (records_in c.args.round.now.outcomes) c.args.engine.now c.args.outbox.now (g.H.Host.outside c.args.host.now).sent
    → (let refused = c.refused-refused-items.result.now in let begin = (at refused c.loop-refused.refused-index).before in let later = joined begin (drop (c.loop-refused.refused-index + 1) refused) c.deref-records.result.now in
    Replies c.answer_up_to.result start all (c.loop-refused.number + length (between c.loop-refused.begin begin c.deref-records.result.now) + 1) later (records_in later) c.answer_up_to.new.engine c.answer_up_to.new.outbox (g.H.Host.outside c.args.host.now) (g.H.Host.outside c.answer_up_to.new.host))
replied g c start before all same answers =
    let was = c.loop-refused.invariant.replies start before all same answers in
    let split = drop_more c.refused-refused-items.result.now c.loop-refused.refused-index (record { before = 0; refusal = UnknownType }) c.loop-refused-test.true in
    let now = rw (left_is c.loop-refused.begin c.deref-records.result.now split) at was.answers.1 in
    let run = c.answer_up_to.ensures.replies start was.answers.0 all _ same now in
    record { answers = run.answers; moments = sends_whole was.moments run.moments; starved = run.starved }

pub loop-refused-preserved : goal.loop-refused-preserved
loop-refused-preserved g c =
    let refused = c.refused-refused-items.result.now in
    let records = c.deref-records.result.now in
    let split = drop_more refused c.loop-refused.refused-index (record { before = 0; refusal = UnknownType }) c.loop-refused-test.true in
    let front = in_front refused c.loop-refused.refused-index c.loop-refused.begin records c.loop-refused.invariant.rise c.loop-refused-test.true in
    let run = between c.loop-refused.begin (at refused c.loop-refused.refused-index).before records in
    let number : c.loop-refused.number + (length run + 1) ≡ c.loop-refused.number + length run + 1 = omega arith in
    record {
      number = omega (arith, front, c.loop-refused.invariant.number);
      rise = (rise_on c.loop-refused.begin records split c.loop-refused.invariant.rise).2;
      replies = λ start before all same answers. rw number (rw c.in_ok-answer_up_to.was at (replied g (goal.at.loop-refused-preserved g c).After-answer_up_to start before all same answers));
      admission = c.answer_up_to.ensures.admission ∙ c.loop-refused.invariant.admission;
      sound = rw number (c.in_ok-answer_up_to.ensures.sound (joined (at refused c.loop-refused.refused-index).before (drop (c.loop-refused.refused-index + 1) refused) records) (rw (left_is c.loop-refused.begin records split) at c.loop-refused.invariant.sound));
      keeps = onward c.loop-refused.invariant.keeps c.answer_up_to.ensures.outside.keeps;
      none = faultless c.loop-refused.invariant.none c.in_ok-answer_up_to.ensures.outside.causes;
    }

pub returns-in_err-answer_up_to-clause-replies : goal.returns-in_err-answer_up_to-clause-replies
returns-in_err-answer_up_to-clause-replies g c start before all same answers =
    let replies = replied g (goal.at.returns-in_err-answer_up_to-clause-replies g c).After-answer_up_to start before all same answers in
    record { answers = search rules; moments = replies.moments; starved = λ is. replies.starved (search rules) }

pub answer_run-requires : goal.answer_run-requires
answer_run-requires g c =
    let end = at_end c.refused-refused-items.result.now c.loop-refused.refused-index c.loop-refused.begin c.deref-records.result.now c.loop-refused.invariant.rise c.loop-refused-test.false in
    let many = ap length (c.deref-records.ensures.value ∙ c.accepted.ensures.accepted) in
    let few : c.loop-refused.number + length (between c.loop-refused.begin (length c.deref-records.result.now) c.deref-records.result.now) < 2 ^ 43 =
    omega (arith, end.1, many, c.loop-refused.invariant.number, c.requires.answered, c.loop-refused.auto.refused-index-end, c.refused-refused-items.ensures.count, c.refused-refused-items.ensures.most) in
    record { sound = ([], c.loop-refused.number, few, rw end.0 at c.loop-refused.invariant.sound) }

-- how many frames there were
all_frames : (g : Over) (c : After-answer_run g) → c.args.answered + length c.args.round.now.outcomes ≡ c.loop-refused.number + length (between c.loop-refused.begin (length c.deref-records.result.now) c.deref-records.result.now)
all_frames g c =
    let end = at_end c.refused-refused-items.result.now c.loop-refused.refused-index c.loop-refused.begin c.deref-records.result.now c.loop-refused.invariant.rise c.loop-refused-test.false in
    let many = ap length (c.deref-records.ensures.value ∙ c.accepted.ensures.accepted) in
    omega (arith, end.1, many, c.loop-refused.invariant.number, c.loop-refused-test.false, c.loop-refused.auto.refused-index-end, c.refused-refused-items.ensures.count)

pub returns-clause-replies : goal.returns-clause-replies
returns-clause-replies g c start before all same answers =
    let end = at_end c.refused-refused-items.result.now c.loop-refused.refused-index c.loop-refused.begin c.deref-records.result.now c.loop-refused.invariant.rise c.loop-refused-test.false in
    let was = c.loop-refused.invariant.replies start before all same answers in
    let run = c.answer_run.ensures.replies start was.answers.0 all c.loop-refused.number [] same (rw end.0 at was.answers.1) in
    rw (all_frames g c) (record { answers = run.answers; moments = sends_whole was.moments run.moments; starved = run.starved })

pub returns-clause-sound : goal.returns-clause-sound
returns-clause-sound g c =
    let end = at_end c.refused-refused-items.result.now c.loop-refused.refused-index c.loop-refused.begin c.deref-records.result.now c.loop-refused.invariant.rise c.loop-refused-test.false in
    rw (all_frames g c) (c.answer_run.ensures.sound [] c.loop-refused.number (rw end.0 at c.loop-refused.invariant.sound))
