use Rattle.std.proofs.Common.{◌++◌, List, ℕ, take, refl, ap, ◌∙◌, arith}
use Rattle.std.proofs.lemmas.Slice.{take-put_mid, drop-put_mid}
use Rattle.wire_core.proofs.buffer.put.Goals as goal

pub returns : goal.returns
returns c =
    let old = c.args.into.now in
    let piece = c.copy_from_slice.new.self in
    record {
      behind = refl;
      prefix = take-put_mid c.args.at _ old piece _ (omega arith) (omega arith)
          ∙ ap (λ (t : List ℕ). take c.args.at old ++ t) c.copy_from_slice.ensures.after;
      rest = λ k le. drop-put_mid c.args.at _ old piece k (omega arith) (omega arith) (omega arith);
    }
