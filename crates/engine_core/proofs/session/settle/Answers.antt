use Rattle.std.proofs.Common.{◌-◌, [], refl, sym, subst, ◌∙◌, arith, rules}
use Rattle.host_core.proofs.Moments.{widened, goes_on, further}
use Rattle.stream_core.proofs.Pending.{on_ok2, whenever_ok}
use Rattle.engine_core.proofs.Answering.{none_waits}
use Rattle.engine_core.proofs.Expecting.{at_rest, safe_sends}
use Rattle.engine_core.proofs.Reading.{kept_is, no_records, leaves_keeps}
use Rattle.engine_core.proofs.Unwritten.{still_nothing, sending}
use Rattle.engine_core.proofs.session.settle.Goals as goal

pub keep_round-requires : goal.keep_round-requires
keep_round-requires g c = record { room = g.K.Keeper.room_for_fewer _ _ _ _ (omega (arith, c.requires.ready.sound.count)) c.requires.ready.room; most = c.requires.ready.most }

pub returns-in_err-keep_round-clause-runs : goal.returns-in_err-keep_round-clause-runs
returns-in_err-keep_round-clause-runs g c start read same serves = record {
  serves = search rules;
  before = search rules;
  moments = widened (c.keep_round.ensures.moments _ serves.held) _ (leaves_keeps serves _ _ c.keep_round.ensures.few);
  nothing = λ none. c.keep_round.ensures.nothing (no_records serves none);
  starved = λ is. absurd (c.keep_round.ensures.unstarved (search rules));
}

pub returns-clause-runs : goal.returns-clause-runs
returns-clause-runs g c start read same serves =
    let held = rw (kept_is serves) at (c.in_ok-keep_round.ensures.held _ serves.held) in
    let answers = rw (sym c.keep_round.ensures.keeps.sent) at serves.judges.answers in
    let replies = c.answer_round.ensures.replies start _ _ (c.acknowledges.ensures ∙ sym same) answers in
    record {
      serves = on_ok2 c.answer_round.result c.answer_round.ensures.empty replies.answers
          (λ empty done. record {
            answered = done.0;
            judges = record { cutter = rw c.answer_round.ensures.cutter serves.judges.cutter; answers = done.1 };
            held = rw (none_waits done.1.waits empty) (g.K.Keeper.still_held c.keep_round.new.keeper _ _ _ held c.answer_round.ensures.outside.keeps.disk c.answer_round.ensures.outside.keeps.left);
          });
      before = whenever_ok c.answer_round.result (λ records pending image recovered.
          c.in_ok-keep_round.ensures.before records pending image (g.K.Keeper.recovered_before c.keep_round.new.keeper records pending image _ _ c.answer_round.ensures.outside.keeps.left recovered));
      moments = goes_on (widened (c.keep_round.ensures.moments _ serves.held) _ (leaves_keeps serves _ _ c.keep_round.ensures.few)) replies.moments
          (λ image bytes stop. safe_sends _ start _ _ image bytes
          (at_rest [] refl (c.in_ok-keep_round.ensures.before _ [] image (g.K.Keeper.recovers_now c.keep_round.new.keeper _ _ image held stop.was))) stop);
      nothing = λ none. still_nothing (c.keep_round.ensures.nothing (no_records serves none)) (sending replies.moments c.answer_round.ensures.outside.keeps.disk);
      starved = replies.starved;
    }

pub returns-clause-ready : goal.returns-clause-ready
returns-clause-ready g c =
    on_ok2 c.answer_round.result c.answer_round.ensures.empty c.answer_round.ensures.sound
    (λ empty sound.
    let next = c.answer_round.new.session.engine in
    record {
      sound = sound;
      room = rw c.answer_round.ensures.outside.keeps.disk (c.in_ok-keep_round.ensures.room (next.admission.capacity - next.evaluated)
          (subst (g.K.Keeper.has_room c.args.keeper.now (g.H.Host.outside c.args.host.now).disk)
          (grind (arith, c.requires.ready.sound.count, c.requires.ready.sound.within, sound.count, c.answer_round.ensures.admission, empty)) c.requires.ready.room));
      some = omega (arith, c.requires.ready.some, c.answer_round.ensures.most);
      most = omega (arith, c.requires.ready.most, c.answer_round.ensures.most);
    })

pub returns-clause-keeps : goal.returns-clause-keeps
returns-clause-keeps g c =
    let kept = c.keep_round.ensures.keeps in
    let sent = c.answer_round.ensures.outside.keeps in
    record {
      input = sent.input ∙ kept.input;
      asks = sent.asks ∙ kept.asks;
      read_faults = sent.read_faults ∙ kept.read_faults;
      continues = further kept.continues sent.continues;
      to_disk = g.K.Keeper.touches_both _ _ _ _ c.keep_round.ensures.touches (g.K.Keeper.untouched _ _ _ sent.disk sent.disk_faults);
    }
