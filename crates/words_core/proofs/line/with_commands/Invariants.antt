use Rattle.std.proofs.Common.{◌≡◌, take, fold}
use Rattle.clap.specs.Words.{app_of}
use Rattle.words_core.specs.Line.{program, with_command}
use Rattle.words_core.proofs.line.with_commands.Given as goal

-- the commands so far are in the program
abbrev pub invariant-loop-verb : goal.invariant-loop-verb
invariant-loop-verb l = app_of l.halts ≡ fold (with_command l.kind) program (take l.verb-index l.verbs)
