use Rattle.std.proofs.Common.{rules, map}
use Rattle.words_core.specs.Line.{CommandLine}
use Rattle.words_core.proofs.Named.{names_a_command}
use Rattle.words_core.proofs.asked.parse.Goals as goal

pub returns-in-None-clause-others : goal.returns-in-None-clause-others
returns-in-None-clause-others c = λ none.
    let line : CommandLine = record { kinds = c.as_slice.result; words = search rules } in
    record { line = line; named = names_a_command line (map (λ w. w.now) c.args.words.now); allowed = c.read_line.ensures.allowed }
