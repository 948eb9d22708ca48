use Rattle.std.proofs.Common.{◌++◌, ◌∷◌, [], subst}
use Rattle.std.proofs.lemmas.Result.{MatchResult-from_err, on_err_weaker}
use Rattle.host_core.specs.Streams.{AppendsPart, digits_of}
use Rattle.host_core.proofs.Written.{part_first, part_second, line_parts}
use Rattle.host_core.proofs.line.write_line.Goals as goal

pub returns-in_err-write_counted-clause-partly : goal.returns-in_err-write_counted-clause-partly
returns-in_err-write_counted-clause-partly g c =
    let before = c.args.line.before.now in
    let after = c.args.line.after.now in
    MatchResult-from_err c.from_residual.result _ _ c.from_residual.ensures.0
    (λ _. subst (AppendsPart _ _) (line_parts before (digits_of c.args.line.number) after)
    (part_first _ _ (before ++ digits_of c.args.line.number) (after ++ 10 ∷ []) c.in_err-write_counted.ensures.partly))

pub returns-clause-partly : goal.returns-clause-partly
returns-clause-partly g c =
    let before = c.args.line.before.now in
    let after = c.args.line.after.now in
    on_err_weaker c.write_both.result
    (λ part. subst (AppendsPart _ _) (line_parts before (digits_of c.args.line.number) after)
    (part_second _ _ _ (before ++ digits_of c.args.line.number) (after ++ 10 ∷ []) c.in_ok-write_counted.ensures.written (rw c.as_bytes.ensures.value at part)))
    c.write_both.ensures.partly
