use Rattle.std.proofs.Common.{◌∙◌, sym, ap, subst, map}
use Rattle.clap.specs.Words.{HasKind, fault_of, is_simple, is_simple_and_free, subcommand_of}
use Rattle.words_core.specs.Asked.{Gives, command_found}
use Rattle.words_core.proofs.Asking.{told, given}
use Rattle.words_core.proofs.Free.{is_free, is_plain}
use Rattle.words_core.proofs.Named.{names_a_command}
use Rattle.words_core.proofs.asked.read_line.Goals as goal

pub returns-in-Ok-try_get_matches_from-clause-allowed : goal.returns-in-Ok-try_get_matches_from-clause-allowed
returns-in-Ok-try_get_matches_from-clause-allowed c =
    let words = map (λ w. w.now) c.args.words.now in
    let line = c.in-Ok.ensures.app in
    let none = c.in-Ok-try_get_matches_from.ensures.kinds (ap is_simple_and_free line ∙ is_free c.args.kinds) in
    let found = (c.in-Ok-try_get_matches_from.ensures.matches (ap is_simple line ∙ is_plain c.args.kinds)).1 in
    given _ _ c.command_asked.result (sym (ap (λ a. fault_of a words) line) ∙ none)
    (names_a_command (record { kinds = c.args.kinds; words = c.requires.kinds }) words)
    (subst (λ s. Gives (command_found s) c.command_asked.result) (found ∙ ap (λ a. subcommand_of a words) line) c.command_asked.ensures.asked)

pub returns-in-Err-clause-allowed : goal.returns-in-Err-clause-allowed
returns-in-Err-clause-allowed c =
    let words = map (λ w. w.now) c.args.words.now in
    let line = c.in-Ok.ensures.app in
    let has = c.in-Err.ensures.kinds (ap is_simple_and_free line ∙ is_free c.args.kinds) in
    told _ _ c.in-Err.error c.answer_to.result (subst (λ a. HasKind (fault_of a words) c.in-Err.error) line has) c.answer_to.ensures
