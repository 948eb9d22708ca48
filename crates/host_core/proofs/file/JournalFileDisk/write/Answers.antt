use Rattle.std.proofs.lemmas.Result.{MatchResult-from_err}
use Rattle.host_core.proofs.Pieces.{torn_still}
use Rattle.host_core.proofs.file.JournalFileDisk.write.Goals as goal

pub returns-in_err-open-clause-torn : goal.returns-in_err-open-clause-torn
returns-in_err-open-clause-torn g c =
    MatchResult-from_err c.from_residual.result _ _ c.from_residual.ensures.0 (λ _ content known within. torn_still _ _ _ _ content c.open.ensures.bytes known)

pub returns-in-None-clause-torn : goal.returns-in-None-clause-torn
returns-in-None-clause-torn g c content known within = torn_still _ _ _ _ content c.open.ensures.bytes known
