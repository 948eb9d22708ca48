use Rattle.std.proofs.Common.{◌∙◌, ap, get_or, sym}
use Rattle.std.proofs.lemmas.List.Sums.{fold_more}
use Rattle.clap.specs.Words.{App}
use Rattle.words_core.specs.Line.{program, with_command}
use Rattle.words_core.specs.declared.command.Verb.TheVariants.{Format}
use Rattle.words_core.proofs.line.with_commands.Goals as goal

pub loop-verb-preserved : goal.loop-verb-preserved
loop-verb-preserved c =
    c.in_ok-halts-2.ensures.app
    ∙ ap (λ (halts : App). with_command c.args.kind halts (get_or c.args.verbs.now c.loop-verb.verb-index Format)) c.loop-verb.invariant
    ∙ sym (fold_more (with_command c.args.kind) program c.args.verbs.now c.loop-verb.verb-index Format c.loop-verb-test.true)
