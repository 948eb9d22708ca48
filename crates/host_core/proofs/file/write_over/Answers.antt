use Rattle.std.proofs.Common.{ap}
use Rattle.std.proofs.lemmas.Result.{MatchResult-from_err}
use Rattle.host_core.specs.Files.{FileState}
use Rattle.host_core.proofs.Pieces.{torn_still}
use Rattle.host_core.proofs.file.write_over.Goals as goal

pub returns-in_err-measure-clause-torn : goal.returns-in_err-measure-clause-torn
returns-in_err-measure-clause-torn g c =
    MatchResult-from_err c.from_residual.result _ _ c.from_residual.ensures.0
    (λ _ content known within. torn_still _ _ _ _ content (ap (λ (s : FileState). s.bytes) c.measure.ensures.same) known)

pub returns-then-branch-gt-BARE_BYTES-clause-torn : goal.returns-then-branch-gt-BARE_BYTES-clause-torn
returns-then-branch-gt-BARE_BYTES-clause-torn g c content known within = torn_still _ _ _ _ content (ap (λ (s : FileState). s.bytes) c.measure.ensures.same) known
