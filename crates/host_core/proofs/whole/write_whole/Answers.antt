use Rattle.std.proofs.Common.{refl}
use Rattle.std.proofs.lemmas.List.{take_rest}
use Rattle.std.proofs.lemmas.Result.{MatchResult-from_err}
use Rattle.host_core.proofs.Pieces.{write_begun, write_more, torn_more, torn_here, torn_at_start}
use Rattle.host_core.proofs.whole.write_whole.Goals as goal

pub loop-done-preserved : goal.loop-done-preserved
loop-done-preserved g c =
    let wrote = rw take_rest at c.in_ok-count.ensures in
    write_more c.loop-done.invariant (g.T.RawFile.state c.write_at.new.self) c.in_ok-count.count wrote.bound wrote.written wrote.same_synced wrote.same_held wrote.same_failed

pub returns-in_err-check_range-clause-torn : goal.returns-in_err-check_range-clause-torn
returns-in_err-check_range-clause-torn g c =
    MatchResult-from_err c.from_residual.result _ _ c.from_residual.ensures.0 (λ _ content known within. torn_at_start _ _ (g.T.RawFile.state c.args.file.now) content known)

pub returns-in_err-count-clause-torn : goal.returns-in_err-count-clause-torn
returns-in_err-count-clause-torn g c =
    let failed = rw take_rest at c.in_err-count.ensures in
    MatchResult-from_err c.from_residual-in_err-count.result _ _ c.from_residual-in_err-count.ensures.0
    (λ _. torn_more c.loop-done.invariant (g.T.RawFile.state c.write_at.new.self) failed.torn)

pub returns-then-count-eq0-clause-torn : goal.returns-then-count-eq0-clause-torn
returns-then-count-eq0-clause-torn g c =
    let wrote = rw take_rest at c.in_ok-count.ensures in
    let now = g.T.RawFile.state c.write_at.new.self in
    torn_here (write_more c.loop-done.invariant now c.in_ok-count.count wrote.bound wrote.written wrote.same_synced wrote.same_held wrote.same_failed) now refl
