use Rattle.std.proofs.Common.{take, sym, ap, ◌∙◌, subst, arith}
use Rattle.std.proofs.lemmas.List.{length-take}
use Rattle.board_core.specs.Entries.{board_entries, entries_after}
use Rattle.board_core.specs.Seats.{HasRoomFor}
use Rattle.gateway.proofs.Steps.{one_more, room_for, next_taken}
use Rattle.gateway.proofs.day.publish_all.Goals as goal

pub publish-requires-clause-room : goal.publish-requires-clause-room
publish-requires-clause-room c =
    let inv = c.loop-message.invariant in
    let ms = c.args.messages.now in
    subst (λ es. HasRoomFor es c.message-item.result) (sym inv.entries) (room_for (take c.loop-message.message-index ms) (omega (arith, length-take c.loop-message.message-index ms, c.requires.count)) c.message-item.result)

pub loop-message-preserved : goal.loop-message-preserved
loop-message-preserved c =
    let inv = c.loop-message.invariant in
    let ms = c.args.messages.now in
    let i = c.loop-message.message-index in
    record {
      writer = c.publish.ensures.seat;
      entries = c.publish.ensures.entries ∙ (ap (λ es. entries_after es c.message-item.result) inv.entries ∙ (sym (one_more (take i ms) c.message-item.result) ∙ ap board_entries (sym (next_taken ms i c.message-item.result c.loop-message-test.true c.message-item.is))));
    }
