use Rattle.std.proofs.Common.{◌+◌, List, drop, sym, ap, subst, ◌∙◌}
use Rattle.board_core.specs.declared.entry.Entry.{Entry}
use Rattle.board_core.specs.Entries.{entries_from}
use Rattle.board_core.specs.Seats.{symbols_of, entries_of}
use Rattle.screen_core.specs.InternalDesk.{CanTakeAll, said_in}
use Rattle.screen_core.proofs.Steps.{drop_one, first_can, first_room, rest_can}
use Rattle.screen_core.proofs.desk.publish_all.Goals as goal

pub publish-requires : goal.publish-requires
publish-requires c =
    let split = ap said_in (drop_one c.args.messages.now c.loop-stamped.stamped-index c.stamped-item.result c.loop-stamped-test.true c.stamped-item.is) in
    let can = subst (CanTakeAll (symbols_of c.args.board.now) (entries_of c.loop-stamped.writer)) split c.loop-stamped.invariant.can in
    record { seat = c.loop-stamped.invariant.writer; symbol = (first_can can).on; room = first_room can; cents = (first_can can).whole }

pub loop-stamped-preserved : goal.loop-stamped-preserved
loop-stamped-preserved c =
    let split = ap said_in (drop_one c.args.messages.now c.loop-stamped.stamped-index c.stamped-item.result c.loop-stamped-test.true c.stamped-item.is) in
    let later = said_in (drop (c.loop-stamped.stamped-index + 1) c.args.messages.now) in
    let can = subst (CanTakeAll (symbols_of c.args.board.now) (entries_of c.loop-stamped.writer)) split c.loop-stamped.invariant.can in
    record {
      writer = c.publish.ensures.seat;
      can = subst (λ (es : List Entry). CanTakeAll (symbols_of c.args.board.now) es later) (sym c.publish.ensures.entries) (rest_can can);
      same =
          ap (λ (es : List Entry). entries_from es later) c.publish.ensures.entries
          ∙ ap (entries_from (entries_of c.loop-stamped.writer)) (sym split)
          ∙ c.loop-stamped.invariant.same;
    }
