use Rattle.std.proofs.Common.{◌≡◌, ◌<◌, length, arith, rules}
use Rattle.std.proofs.lemmas.List.Elements.{All-push}
use Rattle.std.proofs.lemmas.Grind.{common_steps}
use Rattle.std.proofs.lemmas.Bool.Decides.{nat_tests}
use Rattle.wire_in.specs.Laws.{IsSound}
use Rattle.journal_core.proofs.AtGateLemmas.{more_frames, not_full, read_on, no_frames, no_not, nothing_read}
use Rattle.journal_core.proofs.at_gate.read_frames.Goals as goal

pub returns-then-is_full-clause-refused : goal.returns-then-is_full-clause-refused
returns-then-is_full-clause-refused c fails batch valid is =
    let before = c.loop-rest.invariant in
    let rest = c.loop-rest.rest.now in
    let some : 0 < length rest = grind (arith, nat_tests) in
    let full : length c.loop-rest.into ≡ 64 = c.if-is_full.ensures.full.0 (search rules) in
    not_full c.loop-rest.into batch rest valid full (more_frames c.loop-rest.into batch c.args.frames.now rest before.sound valid before.read some is)

pub returns-in_default-clause-refused : goal.returns-in_default-clause-refused
returns-in_default-clause-refused c fails batch valid is =
    let before = c.loop-rest.invariant in
    let rest = c.loop-rest.rest.now in
    let some : 0 < length rest = grind (arith, nat_tests) in
    let more = more_frames c.loop-rest.into batch c.args.frames.now rest before.sound valid before.read some is in
    c.in_default.ensures more.x _ more.sound more.whole

pub loop-rest-preserved : goal.loop-rest-preserved
loop-rest-preserved c =
    let before = c.loop-rest.invariant in
    let found = c.in-Some.ensures in
    let x = found.0 in
    let taken = found.3 in
    record {
      read = rw taken (read_on c.loop-rest.into x c.args.frames.now c.loop-rest.rest.now c.in-Some.after.now before.read found.2);
      sound = rw taken (All-push IsSound c.loop-rest.into x before.sound found.1);
      most = rw taken (grind (arith, common_steps));
    }

pub returns-clause-refused : goal.returns-clause-refused
returns-clause-refused c fails batch valid =
    let end : length c.loop-rest.rest.now ≡ 0 = grind (arith, nat_tests) in
    no_frames batch c.args.frames.now valid (nothing_read c.loop-rest.into c.args.frames.now c.loop-rest.rest.now c.loop-rest.invariant.read end (c.is_empty-2.ensures.0 (no_not c.is_empty-2.result fails)))
