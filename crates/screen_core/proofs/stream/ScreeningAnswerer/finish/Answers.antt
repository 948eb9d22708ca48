use Rattle.std.proofs.Common.{◌≡◌, ℕ, List, ap, ◌∙◌}
use Rattle.std.specs.Io.KnownBytes.{append_known}
use Rattle.std.specs.List.{flat_map}
use Rattle.wire_in.specs.Cutting.{bodies_of}
use Rattle.std.proofs.Common.{take}
use Rattle.stream_core.proofs.Sending.{sends_same}
use Rattle.screen_core.specs.Rows.{row_line}
use Rattle.screen_core.specs.Screened.{accepted, screen_text}
use Rattle.screen_core.specs.InternalScreens.{expects_none}
use Rattle.screen_core.proofs.Ending.{ends_so, lines_whole}
use Rattle.screen_core.proofs.stream.ScreeningAnswerer.finish.Goals as goal

pub show-requires : goal.show-requires
show-requires g c = record { ready = c.requires.ready.screen; room = (c.requires.ready.room.empty, c.requires.ready.room.rows) }

pub send_rows-requires : goal.send_rows-requires
send_rows-requires g c = c.requires.ready.room.line

pub returns-clause-exact : goal.returns-clause-exact
returns-clause-exact g c given same knows through =
    let ends = ends_so knows.reads through c.inside.result c.inside.ensures in
    let rows = c.show.ensures (accepted (bodies_of (take c.args.read given.input))) knows.reads.keeps in
    let text : flat_map row_line c.deref.result.now ≡ screen_text c.args.most given.input = ap (flat_map row_line) c.deref.ensures.value ∙ lines_whole knows.reads through c.show.new.rows.items rows in
    rw same (c.ended-status.ensures ∙ ends, c.in_ok-send_rows.ensures.sent given.begin (expects_none knows) ∙ ap (λ (text : List ℕ). append_known given.begin text) text)

pub returns-clause-leaves : goal.returns-clause-leaves
returns-clause-leaves g c given same knows through =
    let rows = c.show.ensures (accepted (bodies_of (take c.args.read given.input))) knows.reads.keeps in
    let text : flat_map row_line c.deref.result.now ≡ screen_text c.args.most given.input = ap (flat_map row_line) c.deref.ensures.value ∙ lines_whole knows.reads through c.show.new.rows.items rows in
    rw same (sends_same _ _ text (c.send_rows.ensures.moments given.begin (expects_none knows)))

pub returns-in_err-send_rows-clause-leaves : goal.returns-in_err-send_rows-clause-leaves
returns-in_err-send_rows-clause-leaves g c given same knows through =
    let rows = c.show.ensures (accepted (bodies_of (take c.args.read given.input))) knows.reads.keeps in
    let text : flat_map row_line c.deref.result.now ≡ screen_text c.args.most given.input = ap (flat_map row_line) c.deref.ensures.value ∙ lines_whole knows.reads through c.show.new.rows.items rows in
    rw same (sends_same _ _ text (c.send_rows.ensures.moments given.begin (expects_none knows)))
