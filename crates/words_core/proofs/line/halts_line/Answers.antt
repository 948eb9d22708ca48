use Rattle.std.proofs.Common.{◌≡◌, IfOk, List, fold, rules, subst}
use Rattle.clap.specs.Words.{app_of}
use Rattle.clap.specs.declared.builder.value_parser.ValueParser.TheVariants.{Names}
use Rattle.words_core.specs.Commands.{verbs}
use Rattle.words_core.specs.Line.{program, with_command}
use Rattle.words_core.specs.declared.command.Verb.{Verb}
use Rattle.words_core.proofs.line.halts_line.Goals as goal

pub returns : goal.returns
returns c =
    let listed : c.as_slice.result.now ≡ verbs = search rules in
    record {
      app = subst (λ (commands : List Verb). IfOk c.with_commands.result (λ halts. app_of halts ≡ fold (with_command (Names c.args.kinds)) program commands)) listed c.with_commands.ensures.app;
    }
