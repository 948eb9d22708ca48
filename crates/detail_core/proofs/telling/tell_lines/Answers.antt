use Rattle.std.proofs.Common.{◌<◌, length, rules}
use Rattle.std.proofs.lemmas.List.{take_rest}
use Rattle.std.proofs.lemmas.Result.{MatchResult-from_err}
use Rattle.detail_core.proofs.Parts.{told_begun, told_more, told_part}
use Rattle.detail_core.proofs.telling.tell_lines.Goals as goal

pub loop-done-init : goal.loop-done-init
loop-done-init g c = told_begun _ _ _

pub returns-in_err-done-clause-partly : goal.returns-in_err-done-clause-partly
returns-in_err-done-clause-partly g c =
    let left : c.loop-done.done < length c.args.text.now = search rules in
    let told = rw take_rest at c.in_err-done.ensures in
    MatchResult-from_err c.from_residual.result _ _ c.from_residual.ensures.0
    (λ _. told_part c.loop-done.invariant left (g.W.Sink.contents c.tell_first.new.sink) told.partly)

pub loop-done-preserved : goal.loop-done-preserved
loop-done-preserved g c =
    let left : c.loop-done.done < length c.args.text.now = search rules in
    let told = rw take_rest at c.in_ok-done.ensures in
    told_more c.loop-done.invariant left (g.W.Sink.contents c.tell_first.new.sink) c.in_ok-done.field-0 (g.W.Sink.failures c.tell_first.new.sink)
    told.used.1 told.told told.whole told.fine
