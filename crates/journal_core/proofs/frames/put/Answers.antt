use Rattle.std.proofs.Common.{◌++◌, List, ℕ, take, ap, ◌∙◌, arith}
use Rattle.std.proofs.lemmas.Slice.{take-put_mid}
use Rattle.journal_core.proofs.frames.put.Goals as goal

pub returns-clause-bytes : goal.returns-clause-bytes
returns-clause-bytes c =
    let old = c.args.into.now in
    take-put_mid c.args.at _ old c.copy_from_slice.new.self _ (omega arith) (omega arith)
    ∙ ap (λ (t : List ℕ). take c.args.at old ++ t) c.copy_from_slice.ensures.after
