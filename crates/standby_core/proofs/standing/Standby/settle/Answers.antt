use Rattle.std.proofs.Common.{[], refl, ap, ◌∙◌, arith}
use Rattle.host_core.proofs.Moments.{widened, goes_on}
use Rattle.stream_core.proofs.Pending.{expects_still, on_ok2}
use Rattle.stream_core.proofs.Pieces.{leaves_both, sends_exchange, sends_leave}
use Rattle.standby_core.specs.declared.standing.Standby.{Standby}
use Rattle.standby_core.specs.Rounds.{RoundState}
use Rattle.standby_core.specs.Standing.{rests_still}
use Rattle.standby_core.proofs.Settling.{does_round, follows_on, leaves_keeps, leaves_replies, sound_kept, writes_leave}
use Rattle.standby_core.proofs.standing.Standby.settle.Goals as goal

pub keep_round-requires-clause-room : goal.keep_round-requires-clause-room
keep_round-requires-clause-room g c = omega (arith, c.requires.sound.count, c.requires.sound.within, c.requires.sound.capacity)

pub returns-in_err-keep_round-clause-leaves : goal.returns-in_err-keep_round-clause-leaves
returns-in_err-keep_round-clause-leaves g c = λ given count serves. widened (c.keep_round.ensures.moments _ serves.at_rest) _ (leaves_keeps serves)

pub returns-in_err-keep_round-clause-does : goal.returns-in_err-keep_round-clause-does
returns-in_err-keep_round-clause-does g c = record { extends = c.keep_round.ensures.extends; most = refl }

pub returns-in_err-keep_round-clause-keeps : goal.returns-in_err-keep_round-clause-keeps
returns-in_err-keep_round-clause-keeps g c = writes_leave c.keep_round.ensures.keeps

pub returns-clause-follows : goal.returns-clause-follows
returns-clause-follows g c = λ given count serves.
    let same = c.reply_round.ensures.rest in
    let replies = ap (λ (r : RoundState). r.replies) c.clear_records.ensures in
    let kept = rests_still (c.in_ok-keep_round.ensures.held _ serves.at_rest) (sends_exchange c.reply_round.ensures.outside.keeps) in
    on_ok2 c.reply_round.result (c.reply_round.ensures.pending given.begin _ (expects_still _ c.keep_round.ensures.keeps.sent serves.pending_is)) c.reply_round.ensures.answered
    (λ expects answered.
    follows_on serves (ap (λ (s : Standby). s.cutter) same) (ap (λ (s : Standby). s.admission) same) (rw (← replies) answered) (ap (λ (s : Standby). s.journal.capacity) same ∙ c.keep_round.ensures.capacity)
    (rw (ap (λ (s : Standby). s.journal) same) kept) (rw (← replies) expects))

pub returns-clause-leaves : goal.returns-clause-leaves
returns-clause-leaves g c = λ given count serves.
    goes_on (widened (c.keep_round.ensures.moments _ serves.at_rest) _ (leaves_keeps serves)) (rw (← ap (λ (r : RoundState). r.replies) c.clear_records.ensures) (c.reply_round.ensures.moments given.begin _ (expects_still _ c.keep_round.ensures.keeps.sent serves.pending_is)))
    (leaves_replies serves c.keep_round.new.journal c.keep_round.ensures.capacity (c.in_ok-keep_round.ensures.held _ serves.at_rest))

pub returns-clause-sound : goal.returns-clause-sound
returns-clause-sound g c =
    let same = c.reply_round.ensures.rest in
    on_ok2 c.reply_round.result c.reply_round.ensures.round c.reply_round.ensures.answered
    (λ round answered.
    sound_kept c.requires.sound c.reply_round.ensures.outside.keeps.disk (ap (λ (s : Standby). s.journal) same) (ap (λ (s : Standby). s.admission) same) (ap (λ (r : RoundState). r.records) (round ∙ ap (λ (r : RoundState). record r { replies = [] }) c.clear_records.ensures)) c.in_ok-keep_round.ensures.whole c.in_ok-keep_round.ensures.of_disk
    c.in_ok-keep_round.ensures.count c.keep_round.ensures.capacity)

pub returns-clause-does : goal.returns-clause-does
returns-clause-does g c = does_round _ _ c.keep_round.ensures.extends c.reply_round.ensures.outside.keeps (c.reply_round.ensures.most ∙ ap (λ (r : RoundState). r.most) c.clear_records.ensures)

pub returns-clause-keeps : goal.returns-clause-keeps
returns-clause-keeps g c = leaves_both (writes_leave c.keep_round.ensures.keeps) (sends_leave c.reply_round.ensures.outside.keeps)
