use Rattle.std.proofs.Common.{◌∙◌, ap, subst, map}
use Rattle.std.proofs.lemmas.Option.{IfSome_then}
use Rattle.clap.specs.Words.{HasKind, fault_of, is_simple_and_free}
use Rattle.words_core.proofs.Asking.{refused}
use Rattle.words_core.proofs.Free.{is_free}
use Rattle.words_core.proofs.fault.read_fault.Goals as goal

pub returns : goal.returns
returns c =
    let words = map (λ w. w.now) c.args.words.now in
    let line = c.in-Ok.ensures.app in
    let has = c.in-Err.ensures.kinds (ap is_simple_and_free line ∙ is_free c.args.kinds) in
    IfSome_then c.text_of.result c.text_of.ensures
    (λ _ fault. refused _ c.in-Err.error (subst (λ a. HasKind (fault_of a words) c.in-Err.error) line has) fault)
