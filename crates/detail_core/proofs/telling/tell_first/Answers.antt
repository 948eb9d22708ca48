use Rattle.std.proofs.Common.{sym, subst}
use Rattle.std.specs.Io.KnownBytes.{Appends}
use Rattle.std.proofs.lemmas.Result.{MatchResult-from_err}
use Rattle.detail_core.proofs.Parts.{first_part, first_told, first_whole}
use Rattle.detail_core.proofs.telling.tell_first.Goals as goal

pub returns-in_err-tell_line-clause-partly : goal.returns-in_err-tell_line-clause-partly
returns-in_err-tell_line-clause-partly g c =
    let len = c.part_len-len in
    MatchResult-from_err c.from_residual.result _ _ c.from_residual.ensures.0
    (λ _. first_part c.args.piece.now len.result len.ensures.within len.ensures.line len.ensures.ended _ _ c.in_err-tell_line.ensures.partly)

pub returns-clause-told : goal.returns-clause-told
returns-clause-told g c =
    let len = c.part_len-len in
    subst (Appends _ _)
    (sym (first_told c.args.piece.now len.result c.min.result len.ensures.within len.ensures.line len.ensures.ended c.min.ensures))
    c.in_ok-tell_line.ensures.told

pub returns-clause-whole : goal.returns-clause-whole
returns-clause-whole g c =
    let len = c.part_len-len in
    first_whole c.args.piece.now len.result c.min.result len.ensures.within len.ensures.line len.ensures.ended c.min.ensures
