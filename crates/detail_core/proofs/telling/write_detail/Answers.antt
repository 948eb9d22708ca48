use Rattle.std.proofs.Common.{◌++◌, ◌∷◌, []}
use Rattle.std.proofs.lemmas.Result.{MatchResult-from_err, on_err_weaker}
use Rattle.detail_core.proofs.Parts.{part_first, part_second}
use Rattle.detail_core.proofs.telling.write_detail.Goals as goal

pub returns-in_err-write_all-clause-partly : goal.returns-in_err-write_all-clause-partly
returns-in_err-write_all-clause-partly g c =
    MatchResult-from_err c.from_residual.result _ _ c.from_residual.ensures.0
    (λ _. part_first _ _ (32 ∷ 32 ∷ []) (c.args.line.now ++ 10 ∷ []) c.in_err-write_all.ensures.partly)

pub returns-clause-partly : goal.returns-clause-partly
returns-clause-partly g c = on_err_weaker c.write_ended.result (part_second _ _ _ _ _ c.in_ok-write_all.ensures.written) c.write_ended.ensures.partly
